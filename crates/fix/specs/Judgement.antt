-- How a frame is judged (02, No. 12): an equal number is next and raises the expected one, a lower one with the flag Y
-- is again, a higher one a gap; a sequence reset without gap fill Y is reset; any other lower one is refused 30.
use Rattle.std.specs.Prelude.{ℕ, ◌+◌, ◌<◌, ◌≡◌, ◌⊎◌, List, [], ◌∷◌}
use Rattle.std.proofs.Math.Option.{some}
use Rattle.ftd.specs.declared.refusal.Refusal.TheVariants.{LowNumber}
use Rattle.fix.specs.declared.read.Message.{Message}
use Rattle.fix.specs.declared.read.Judged.TheVariants.{Refused, Next, Again, Gap, Reset}
use Rattle.fix.specs.Read.{message_in, read_of}
use Rattle.fix.specs.RoundTrips.{text_at}
use Rattle.fix.specs.Pairs.{pair, pairs_of}
use Rattle.fix.specs.Values.{In}

-- A field of the message with this tag says Y.
abbrev pub SaysYes : ℕ → List ℕ → Message → Type 0
SaysYes tag b m = In (pair tag (89 ∷ [])) (pairs_of (text_at b m.fields))

-- A sequence reset without gap fill.
abbrev pub Resets : List ℕ → Message → Type 0
Resets b m = (text_at b m.name ≡ 52 ∷ []) × (SaysYes 123 b m → ⊥)

pub record Judgement : Type 0 where
  pub next : (b : List ℕ) (expected : ℕ) (m : Message) → (read_of b expected).answer ≡ Next m
      → (m.number ≡ expected) × (Resets b m → ⊥) × ((read_of b expected).expected ≡ expected + 1)
  pub again : (b : List ℕ) (expected : ℕ) (m : Message) → (read_of b expected).answer ≡ Again m
      → (m.number < expected) × SaysYes 43 b m × (Resets b m → ⊥) × ((read_of b expected).expected ≡ expected)
  pub gap : (b : List ℕ) (expected : ℕ) (m : Message) → (read_of b expected).answer ≡ Gap m
      → (expected < m.number) × (Resets b m → ⊥) × ((read_of b expected).expected ≡ expected)
  pub reset : (b : List ℕ) (expected : ℕ) (m : Message) → (read_of b expected).answer ≡ Reset m
      → Resets b m × ((read_of b expected).expected ≡ expected)
  -- What bears a message with one expected number bears it with any, or is refused 30: lower, no flag, no reset.
  pub any : (b : List ℕ) (expected : ℕ) (m : Message) → message_in (read_of b expected).answer ≡ some m → (n : ℕ)
      → (message_in (read_of b n).answer ≡ some m)
      ⊎ (((read_of b n).answer ≡ Refused LowNumber) × (m.number < n) × (SaysYes 43 b m → ⊥) × (Resets b m → ⊥))
  -- And nothing else is refused 30: with 0 expected, no number is lower.
  pub low : (b : List ℕ) (expected : ℕ) → (read_of b expected).answer ≡ Refused LowNumber
      → (m : Message) × (message_in (read_of b 0).answer ≡ some m)
