-- A history by day and by series: what is appended to it, and how it stands in the log. Assumes nothing.
use Prim.Native.Nat.{ℕ, zero, suc, ◌+◌}
use native.Mathlib.Omega.{arith}
use mathlib.Core.Path.{◌≡◌, refl, ap, ◌∙◌, sym}
use mathlib.Core.List.{List, [], ◌∷◌, ◌++◌}
use mathlib.Core.Bool.{Bool, true, false, cond, ◌&&◌}
use mathlib.Core.Option.{some}
use borrow.Author.Tests.{eqb-true, eq-eqb, ne_eqb}
use lib.ListN.{length, get_elem?}
use lib.Dec.{eqb}
use Rattle.ftd.specs.Fields.{shaped, most_content}
use Rattle.ftd.specs.Types.{TradeDate}
use Rattle.flow.specs.declared.sender.Sender.{Sender}
use Rattle.flow.specs.Ends.{is_day, is_served}
use Rattle.flow.specs.Log.{entry_bytes, times}
use Rattle.flow.specs.Answers.{Message}
use Rattle.flow.specs.World.{Dated, dated}
use Rattle.flow.specs.Agreement.{of}
use Rattle.flow.proofs.source.Logs.{Pub, entry_for, laid, Sound, found}
use Rattle.flow.proofs.common.Extends.{none-some}
use Rattle.std.specs.Prelude.{Some, None}

-- ─── The publications of a day, and those of a series among them ───

abbrev pub pub_of : ℕ → Message → Pub
pub_of s m = record { series = s; tid = m.tid; content = m.content }

abbrev pub on_day : ℕ → List (Dated Message) → List Pub
on_day d [] = []
on_day d (x ∷ l) = cond (is_day d x.day) (pub_of x.series x.what ∷ on_day d l) (on_day d l)

-- Those of the present day, if any.
abbrev pub on_date : TradeDate → List (Dated Message) → List Pub
on_date None l = []
on_date (Some d) l = on_day d l

abbrev pub messages_of : ℕ → List Pub → List Message
messages_of s [] = []
messages_of s (p ∷ ps) =
    cond (eqb p.series s) (record { tid = p.tid; content = p.content } ∷ messages_of s ps) (messages_of s ps)

pub of_is : (s d : ℕ) (l : List (Dated Message)) → of s d l ≡ messages_of s (on_day d l)
of_is s d [] = refl
of_is s d (x ∷ l) = go (eqb x.series s) refl (is_day d x.day) (of_is s d l)
  where
    go : (a : Bool) → eqb x.series s ≡ a → (b : Bool) → of s d l ≡ messages_of s (on_day d l) →
        cond (a && b) (x.what ∷ of s d l) (of s d l) ≡ messages_of s
        (cond b (pub_of x.series x.what ∷ on_day d l) (on_day d l))
    go true q true ih = rw (q, ih)
    go true q false ih = ih
    go false q true ih = rw (q, ih)
    go false q false ih = ih

-- ─── Appended ───

pub day-append : (d : ℕ) (l m : List (Dated Message)) → on_day d (l ++ m) ≡ on_day d l ++ on_day d m
day-append d [] m = refl
day-append d (x ∷ l) m = go (is_day d x.day) (day-append d l m)
  where
    go : (b : Bool) → on_day d (l ++ m) ≡ on_day d l ++ on_day d m →
        cond b (pub_of x.series x.what ∷ on_day d (l ++ m)) (on_day d (l ++ m)) ≡ cond b
        (pub_of x.series x.what ∷ on_day d l) (on_day d l) ++ on_day d m
    go true ih = rw ih
    go false ih = ih

pub messages-append : (s : ℕ) (a b : List Pub) → messages_of s (a ++ b) ≡ messages_of s a ++ messages_of s b
messages-append s [] b = refl
messages-append s (p ∷ a) b = go (eqb p.series s) (messages-append s a b)
  where
    go : (t : Bool) → messages_of s (a ++ b) ≡ messages_of s a ++ messages_of s b →
        cond t (record { tid = p.tid; content = p.content } ∷ messages_of s (a ++ b)) (messages_of s (a ++ b))
        ≡ cond t (record { tid = p.tid; content = p.content } ∷ messages_of s a) (messages_of s a) ++ messages_of s b
    go true ih = rw ih
    go false ih = ih

-- On its own day a publication is the last one.
pub date-append : (t : TradeDate) (l : List (Dated Message)) (s : ℕ) (m : Message) → (t ≡ None → ⊥) →
    on_date t (l ++ (dated s t m ∷ [])) ≡ on_date t l ++ (pub_of s m ∷ [])
date-append None l s m n = absurd (n refl)
date-append (Some d) l s m n = day-append d l (dated s (Some d) m ∷ []) ∙ rw (eq-eqb d d refl)

-- ─── In the log ───

-- The series of publications, the last one first, before those given.
abbrev pub series_back : List ℕ → List Pub → List ℕ
series_back earlier [] = earlier
series_back earlier (p ∷ ps) = series_back (p.series ∷ earlier) ps

pub laid-append : (earlier : List ℕ) (ps : List Pub) (p : Pub)
    → laid earlier (ps ++ (p ∷ [])) ≡ laid earlier ps ++ (entry_for (series_back earlier ps) p ∷ [])
laid-append earlier [] p = refl
laid-append earlier (q ∷ ps) p =
    ap (λ (l : List (List ℕ)). entry_for earlier q ∷ l) (laid-append (q.series ∷ earlier) ps p)

pub times-back : (s : ℕ) (earlier : List ℕ) (ps : List Pub)
    → times s (series_back earlier ps) ≡ times s earlier + length (messages_of s ps)
times-back s earlier [] = omega arith
times-back s earlier (p ∷ ps) = times-back s (p.series ∷ earlier) ps ∙ go (eqb p.series s)
  where
    go : (b : Bool) → cond b (suc (times s earlier)) (times s earlier) + length (messages_of s ps)
        ≡ times s earlier + length
        (cond b (record { tid = p.tid; content = p.content } ∷ messages_of s ps) (messages_of s ps))
    go true = omega arith
    go false = refl

-- ─── Sound publications ───

pub sound-kept : (e f : Sender) (ps : List Pub) → ((s : ℕ) → is_served f s ≡ is_served e s) → Sound e ps → Sound f ps
sound-kept e f [] g h = tt
sound-kept e f (p ∷ ps) g h = (g p.series ∙ h.0, h.1, sound-kept e f ps g h.2)

pub sound-append : (e : Sender) (ps : List Pub) (p : Pub) → Sound e ps → is_served e p.series ≡ true
    → shaped p.content most_content ≡ true → Sound e (ps ++ (p ∷ []))
sound-append e [] p h a b = (a, b, tt)
sound-append e (q ∷ ps) p h a b = (h.0, h.1, sound-append e ps p h.2 a b)

-- The one at a place of its series is of the right shape,
pub place-shaped : (e : Sender) (s : ℕ) (ps : List Pub) → Sound e ps → (i : ℕ) (x : Message)
    → get_elem? (messages_of s ps) i ≡ some x → shaped x.content most_content ≡ true
place-shaped e s [] h i x q = absurd (none-some x q)
place-shaped e s (p ∷ ps) h i x q = go (eqb p.series s) i (λ j. place-shaped e s ps h.2 j x) q
  where
    go : (b : Bool) (i : ℕ) → ((j : ℕ) → get_elem? (messages_of s ps) j ≡ some x → shaped x.content most_content ≡ true)
        →
        get_elem? (cond b (record { tid = p.tid; content = p.content } ∷ messages_of s ps) (messages_of s ps)) i ≡ some x
        → shaped x.content most_content ≡ true
    go true zero ih q =
        let m : Message = record { tid = p.tid; content = p.content } in
        let same : m ≡ x = cc in
        ap (λ (y : Message). shaped y.content most_content) (sym same) ∙ h.1
    go true (suc i) ih q = ih i q
    go false i ih q = ih i q

-- and is found by the walk, at the number behind its place.
pub found-is : (s k : ℕ) (earlier : List ℕ) (ps : List Pub) (i : ℕ) (x : Message) → k ≡ suc (times s earlier + i)
    → get_elem? (messages_of s ps) i ≡ some x →
    found s k earlier ps ≡ some (entry_bytes s x.tid k x.content)
found-is s k earlier [] i x n q = absurd (none-some x q)
found-is s k earlier (p ∷ ps) i x n q = go (eqb p.series s) refl i n q λ j. found-is s k (p.series ∷ earlier) ps j x
  where
    go : (b : Bool) → eqb p.series s ≡ b → (i : ℕ) → k ≡ suc (times s earlier + i) →
        get_elem? (cond b (record { tid = p.tid; content = p.content } ∷ messages_of s ps) (messages_of s ps)) i ≡ some x
        →
        ((j : ℕ) → k ≡ suc (cond b (suc (times s earlier)) (times s earlier) + j)
        → get_elem? (messages_of s ps) j ≡ some x →
        found s k (p.series ∷ earlier) ps ≡ some (entry_bytes s x.tid k x.content)) →
        cond (b && eqb (suc (times p.series earlier)) k) (some (entry_for earlier p))
        (found s k (p.series ∷ earlier) ps)
        ≡ some (entry_bytes s x.tid k x.content)
    go true a zero n q ih =
        let m : Message = record { tid = p.tid; content = p.content } in
        let same : m ≡ x = cc in
        let here : p.series ≡ s = eqb-true p.series s a in
        let number : suc (times p.series earlier) ≡ k = rw here (omega arith) in
        let entry : entry_bytes s p.tid k p.content ≡ entry_bytes s x.tid k x.content =
        ap (λ (y : Message). entry_bytes s y.tid k y.content) same in
        rw (number, eq-eqb k k refl, here) (ap some entry)
    go true a (suc i) n q ih =
        let here : p.series ≡ s = eqb-true p.series s a in
        let other : (suc (times p.series earlier) ≡ k) → ⊥ = rw here λ h. omega arith in
        rw (ne_eqb (suc (times p.series earlier)) k other) (ih i (omega arith) q)
    go false a i n q ih = ih i n q
