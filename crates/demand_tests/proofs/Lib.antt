mod Driving
mod Rounds
