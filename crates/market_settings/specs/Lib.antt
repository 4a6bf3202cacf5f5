pub mod Keys
pub mod StepSizes
pub mod Values
pub mod Settings
