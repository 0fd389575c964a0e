-- The laws of make-up (Appendix E).
pub mod Lines
pub mod Rule
