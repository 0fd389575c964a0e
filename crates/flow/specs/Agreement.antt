-- Demand 3, whole: what is handed on is what was published, after every list of calls. The quotations are the demand's
-- words.
use Rattle.std.specs.Prelude.{ℕ, ◌<◌, ◌≤◌, ◌≡◌, List, [], ◌∷◌, ◌++◌, map, cond, ◌&&◌, length, take, drop, eqb}
use Rattle.std.proofs.Math.Option.{some}
use Rattle.std.proofs.Math.ListN.{get_elem?}
use Rattle.flow.specs.Ends.{is_day, all_parts}
use Rattle.flow.specs.Serving.{send_of}
use Rattle.flow.specs.Answers.{Message}
use Rattle.flow.specs.World.{InSeries, in_series, Dated, Event, answer, message, whole, transmission, World, start}
use Rattle.flow.specs.World.{step, run}
use Rattle.std.specs.Prelude.{Some, None, Ok}

-- ─── "For every series and day" ───

-- What a history holds of a series and a day, in order.
abbrev pub of : {A : Type 0} → ℕ → ℕ → List (Dated A) → List A
of s d [] = []
of s d (x ∷ l) = cond (eqb x.series s && is_day d x.day) (x.what ∷ of s d l) (of s d l)

-- Published, handed on: TID and content.
abbrev pub published_on : World → ℕ → ℕ → List Message
published_on w s d = of s d w.serving.published

abbrev pub handed_on : World → ℕ → ℕ → List Message
handed_on w s d = of s d w.receiving.handed

-- The last of a list; n where it is empty.
abbrev pub latest : ℕ → List ℕ → ℕ
latest n [] = n
latest n (k ∷ l) = latest k l

-- "n being the last number that the receiving end reported for them"; before any report 0.
abbrev pub reported : World → ℕ → ℕ → ℕ
reported w s d = latest 0 (of s d w.receiving.reports)

-- "exactly n messages were handed on: the first n published there, in order, each once"
pub record Agreed (w : World) (s d : ℕ) : Type 0 where
  pub exactly : length (handed_on w s d) ≡ reported w s d
  pub first : handed_on w s d ≡ take (reported w s d) (published_on w s d)

-- Everything in a history is of a day, so that it counts for a series and a day.
abbrev pub EachDated : {A : Type 0} → List (Dated A) → Type 0
EachDated [] = Unit
EachDated (x ∷ l) = ((d : ℕ) × (x.day ≡ Some d)) × EachDated l

-- ─── "whenever, since the serving end last took a login there .." ───

-- xs stands in ys, in order, whatever else stands between.
pub data Subsequence {A : Type 0} : List A → List A → Type 0 where
  done : Subsequence [] []
  skip : {y : A} {xs ys : List A} → Subsequence xs ys → Subsequence xs (y ∷ ys)
  keep : {y : A} {xs ys : List A} → Subsequence xs ys → Subsequence (y ∷ xs) (y ∷ ys)

-- What a list holds now behind what it held then: the lists of a world only grow.
abbrev pub since : {A : Type 0} → List A → List A → List A
since then now = drop (length then) now

abbrev pub in_that : {A : Type 0} → ℕ → List (InSeries A) → List A
in_that s [] = []
in_that s (x ∷ l) = cond (eqb x.series s) (x.what ∷ in_that s l) (in_that s l)

-- u is the world before the login, v right behind it, w at the list's end; a is the login's answer, out any output.
pub record CaughtUp (u v w : World) (s d : ℕ) (a out : List ℕ) : Type 0 where
  -- The event is a login of series s on day d that was taken: it put an answer on the line;
  pub login : v.serving.answers ≡ u.serving.answers ++ (in_series s a ∷ [])
  pub day : v.serving.day ≡ Some d
  -- and the last one there: behind it there is no other.
  pub last : in_that s (since v.serving.answers w.serving.answers) ≡ []
  -- "that login's answer and then every message sent were delivered, whole and in order (whatever else was delivered
  -- between)"
  pub delivered :
      Subsequence (answer s a ∷ map message (in_that s (since v.serving.messages w.serving.messages)))
      (since v.receiving.delivered w.receiving.delivered)
  -- "the sender has none left at the list's end": Send would answer "none".
  pub drained : (send_of w.serving.end s w.serving.log out).answer ≡ (Ok None)
  -- "the buffers are large enough": the chain buffer holds all its parts. An output that is too small makes a Send
  -- refused, and a refused Send sends nothing and leaves one more to send.
  pub room : all_parts w.receiving.end ≤ length w.receiving.buffer
  -- "no opening or connection came since": none that was taken, of either end.
  pub no-opening : w.serving.openings ≡ v.serving.openings
  pub no-restart : w.receiving.restarts ≡ v.receiving.restarts

-- ─── The demand ───

-- "after every list of openings, publications, connections, login requests, logins, sends and deliveries, refused ones
-- included"; "the ends start fresh, log and chain buffer with any length and content".
pub record Agreement : Type 0 where
  -- To Receive may come any single packet of any transmission, in any order and number (02, No. 10).
  pub safe : (log buffer : List ℕ) (es : List Event) (s d : ℕ) → Agreed (run (start log buffer) es) s d
  -- No message is handed on and nothing is reported that is of no day.
  pub dated : (log buffer : List ℕ) (es : List Event) →
      let w = run (start log buffer) es in
      EachDated w.receiving.handed × EachDated w.receiving.reports
  -- Each message sent is on the line, whole, and has a packet: whatever was sent can be delivered.
  pub sent : (log buffer : List ℕ) (es : List Event) (i : ℕ) (m : InSeries (List (List ℕ))) →
      let v = (run (start log buffer) es).serving in
      get_elem? v.messages i ≡ some m
      → (0 < length m.what)
      × ((place : ℕ) × (get_elem? v.transmissions place ≡ some (transmission m.series m.what whole)))
  -- "And n is the published count whenever ..", for messages delivered as runs with no other call of the receiving end
  -- within them; single packets may come between the runs.
  pub complete : (log buffer : List ℕ) (es fs : List Event) (e : Event) (s d : ℕ) (a out : List ℕ) →
      let u = run (start log buffer) es in
      let v = step u e in
      let w = run v fs in
      CaughtUp u v w s d a out → reported w s d ≡ length (published_on w s d)
