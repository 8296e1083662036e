-- The theorem of demand 3 is in Theorem.antt, what Even and Odd of a family give in Parted.antt, that two sums of a
-- family's weights are one number in Sums.antt, and two sizes in Entries.antt; lowest first.
pub mod Limits
pub mod Lending
pub mod Acting
pub mod Invariant
pub mod Placings
pub mod Steps
pub mod Growth
pub mod Filing
pub mod Reaching
pub mod Answering
pub mod Members
pub mod Summing
pub mod Theorem
pub mod Parted
pub mod Sums
pub mod Entries
pub mod Tabled
pub mod Worked
pub mod Laying
pub mod Numbers
pub mod Promising
pub mod Witness
