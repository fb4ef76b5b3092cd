pub mod Flagging
