pub mod NoneDiffers
