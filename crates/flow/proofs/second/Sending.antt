-- Messages by series, day and number, as they are sent from a login on. Assumes nothing.
use Prim.Native.Nat.{ℕ, suc, ◌+◌, ◌≤◌}
use native.Mathlib.Omega.{arith}
use mathlib.Core.Path.{◌≡◌, refl}
use mathlib.Core.List.{List, [], ◌∷◌}
use mathlib.Core.Bool.{true}
use mathlib.Core.Option.{some}
use lib.ListN.{get_elem?}
use Rattle.ftd.specs.Chain.{packets_of}
use Rattle.ftd.specs.Fields.{shaped}
use Rattle.flow.specs.World.{SenderSide}
use Rattle.flow.proofs.second.SentFrom.{SentAs}
use Rattle.std.specs.Prelude.{Some}

-- Packets are those of a message of series s with number k, of day d.
pub record Whole (s d k : ℕ) (ps : List (List ℕ)) : Type 0 where
  pub tid : ℕ
  pub content : List ℕ
  pub is : ps ≡ packets_of (record { date = Some d; tid = tid; series = s; number = k; counted = true }) content
  pub shape : shaped content 32768 ≡ true
  pub few : k ≤ 1000000

pub sent-whole : (u : SenderSide) (s d k : ℕ) (ps : List (List ℕ)) → SentAs u s d k ps → Whole s d k ps
sent-whole u s d k ps x =
    let g = x.0 in
    record {
      tid = g.what.tid;
      content = g.what.content;
      is = rw (x.1, x.2) at g.packets;
      shape = g.good;
      few = rw x.2 at g.few;
    }

-- A list of messages numbered from k on.
abbrev pub Numbered : ℕ → ℕ → ℕ → List (List (List ℕ)) → Type 0
Numbered s d k [] = Unit {0}
Numbered s d k (x ∷ l) = Whole s d k x × Numbered s d (suc k) l

pub numbered-each : (s d k : ℕ) (l : List (List (List ℕ)))
    → ((j : ℕ) (ps : List (List ℕ)) → get_elem? l j ≡ some ps → Whole s d (k + j) ps) → Numbered s d k l
numbered-each s d k [] f = tt
numbered-each s d k (x ∷ l) f =
    let a : k + 0 ≡ k = omega arith in (
      rw a at (f 0 x refl),
      numbered-each s d (suc k) l λ j ps q. let b : k + suc j ≡ suc k + j = omega arith in rw
          b at (f (suc j) ps q),
    )
