pub mod Exp
