pub mod Unescape
