-- A packet whose line is not the last is there whole. Assumes nothing.
use Prim.Native.Nat.{ℕ, ◌≤◌}
use mathlib.Core.Path.{◌≡◌}
use mathlib.Core.List.{List}
use mathlib.Core.Bool.{true, false}
use native.Mathlib.Omega.{arith}
use borrow.Author.Tests.{le-leb}
use lib.ListN.{length}
use Rattle.ftd.specs.Packet.Laws.{Inside}
use Rattle.ftd.specs.Packet.{said_length, said_in, read_of}
use Rattle.ftd.specs.declared.packet.Packet.{Packet}
use Rattle.ftd.specs.declared.packet.Packet.TheVariants.{Short, Link, Skipped, Message, Refused}
use Rattle.ftd.proofs.packet.Laws.{inside}
use Rattle.listing.specs.Lines.{goes_on}

-- The packet at the front has four bytes at least, and all that its first four say.
pub record There (p : List ℕ) : Type 0 where
  pub least : 4 ≤ said_in p
  pub most : said_in p ≤ length p

pub never : {A : Type 0} → false ≡ true → A
never e = absurd (let z : ◌≡◌ {A = ℕ} 0 1 = cc in omega arith)

module _ (p : List ℕ) where
  said-there : (found : Packet) → Inside p found → goes_on found ≡ true → said_length p ≤ length p
  said-there (Short n) i e = never e
  said-there (Link kind extension) i e = i.1
  said-there (Skipped kind extension body) i e = i.2
  said-there (Message h extension content) i e = i.2
  said-there (Refused r) i e = never e

  pub there : goes_on (read_of p) ≡ true → There p
  unfolding said_in said_length
  there e =
      let h : said_length p ≤ length p = said-there (read_of p) (inside p) e in
      let s = le-leb 4 (length p) (omega arith) in
      record { least = rw s (omega arith); most = rw s h }
