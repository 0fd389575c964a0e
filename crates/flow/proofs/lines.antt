-- Layer "lines": what may happen on a line, step by step: an event of the world; nothing; or
-- a call of the receiving end that passed its own checks and is turned away by what stands behind it (02, No. 3: the box
-- refuses more than its receiving end). A turned Answer changes nothing; a turned Receive drops the chain. Both halves
-- of demand 3 are proved of such steps; lists of events are those without the turned ones.
pub mod Steps
pub mod Moves
