pub mod Asking
