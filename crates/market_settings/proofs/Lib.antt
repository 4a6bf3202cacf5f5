pub mod StepReading
