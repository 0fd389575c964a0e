-- The proof of request No. 3: what the box makes of a packet (`Ways`), each event of the whole as at most one step of
-- each line (`Above`, `Below`), the two sides of the box joined (`Join`, `Joint`), then `flow`'s both halves on each
-- line (`Halves`), the numbers and the way to a seat (`Numbers`), the day's books and the log that is long enough
-- (`Sums`, `Books`, `Enough`). Apart from these: seats that don't touch each other (`Seats`), and what opens and
-- publishes (`Openings`).
--
-- The proof of request No. 14: one box between any two neighbours (`Nodes`), each event of a row as at most one step of
-- each line, by induction over the boxes (`Rows`), both halves and the days along the row (`RowHalves`), its logs
-- (`RowEnough`), rows of no box and of one (`RowCovers`), its nodes as serving ends and their order (`RowOrder`).
pub mod Calls
pub mod Effects
pub mod CallsAs
pub mod Logged
pub mod Together
pub mod BoxCalls
pub mod Bufferful
pub mod Refusals
pub mod Examples
pub mod Ways
pub mod Seats
pub mod Above
pub mod Below
pub mod Join
pub mod Joint
pub mod Halves
pub mod Openings
pub mod Numbers
pub mod Sums
pub mod Books
pub mod Enough
pub mod Agreement
pub mod Nodes
pub mod Rows
pub mod RowHalves
pub mod RowEnough
pub mod RowCovers
pub mod RowOrder
pub mod RowAgreement
pub mod RowExamples
