pub mod Whole
pub mod Laid
pub mod RoundTrip
pub mod InTwo
