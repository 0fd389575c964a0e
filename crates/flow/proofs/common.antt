-- Below the layers: tests, lists, days and histories, and how a claim goes along a row of tests.
pub mod Bools
pub mod Rows
pub mod Extends
pub mod Days
pub mod Lists
pub mod Filled
pub mod Histories
pub mod Contents
pub mod Writers
pub mod Transmissions
