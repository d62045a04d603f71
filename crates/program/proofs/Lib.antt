-- Laws of what both programs do. Assumes nothing.
pub mod Rooms
pub mod Tables
pub mod Cut
pub mod Printed
