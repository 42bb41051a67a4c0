pub mod Moderating
pub mod ModeratingLaws
