-- Layer "the numbers taken": what each call does to a series of a receiving end, in any state; and along a list of calls
-- the numbers of one day.
pub mod Does
pub mod Days
