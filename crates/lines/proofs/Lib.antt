pub mod Digits
pub mod Lengths
pub mod Placing
pub mod Printed
pub mod Sample
pub mod Streams
