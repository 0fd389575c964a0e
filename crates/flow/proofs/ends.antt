-- Below the layers: what is looked up in an end that is fresh, opened, or changed in one series; in any state.
pub mod Lookups
pub mod SenderLookups
pub mod SenderOpened
pub mod ReceiverLookups
pub mod ReceiverOpened
