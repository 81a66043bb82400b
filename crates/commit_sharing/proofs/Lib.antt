mod First
mod Writers
