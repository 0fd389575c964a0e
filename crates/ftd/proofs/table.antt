-- The laws of the table of Appendix D.
pub mod Rule
