pub mod Blocks
pub mod Bounds
mod ByOctet
pub mod Faults
pub mod FlagsRead
pub mod FoundOption
mod Gathering
pub mod HeaderRead
pub mod Held
pub mod HeldBlocks
pub mod Induction
pub mod Inside
mod Judging
pub mod KindAtFault
mod KindsKnown
mod Listed
pub mod LowKinds
mod Membership
mod Noting
pub mod Numbers
pub mod OptionValues
pub mod OptionsRead
mod Outcomes
pub mod Readable
pub mod Refused
pub mod Skipped
mod Standing
pub mod Steps
