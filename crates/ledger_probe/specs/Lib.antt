pub mod Rig
