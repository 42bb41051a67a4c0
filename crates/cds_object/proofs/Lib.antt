pub mod Firsts
pub mod BadNames
pub mod Cleans
pub mod WideAttributes
