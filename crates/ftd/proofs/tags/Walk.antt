-- One turn of the walk that checks the tags and finds the trade date and the packet's place, over plain variables.
-- Assumes nothing.
use Prim.Native.Nat.{ℕ, ◌+◌, ◌-◌, ◌<◌, ◌≤◌}
use mathlib.Core.Path.{◌≡◌, refl, sym, ap, ◌∙◌}
use mathlib.Core.List.{List}
use mathlib.Core.Bool.{Bool, true, false, cond}
use native.Mathlib.Omega.{arith}
use borrow.Author.Tests.{eqb-true, eqb-false, leb-true, leb-false, lt-leb, le-leb}
use lib.ListN.{length, get_or, drop}
use lib.Dec.{leb, eqb}
use Rattle.ftd.specs.Bytes.{be16_of, be32_of}
use Rattle.ftd.specs.Runs.{front, run_of}
use Rattle.ftd.specs.Tags.{tag, known_tags, length_right, count_kind, good_run, good_tags, tag_in, tag_place}
use Rattle.ftd.specs.Tags.{trade_date_of, packet_place_of, tag_run_of}
use Rattle.ftd.specs.Tags.Helpers.{data_place, SeenTag}
use Rattle.ftd.specs.Types.{TradeDate}
use Rattle.ftd.specs.Types.{PacketPlace}
use Rattle.ftd.proofs.tags.Turns.{tags-stop, tags-end, tags-wrong, find-over, find-here, find-turn, tag-short}
use Rattle.ftd.proofs.tags.Turns.{tag-whole}
use Rattle.std.specs.Prelude.{Some, None}
use Rattle.ftd.specs.Types.{some_data, MaybeTags, some_tags}

-- What is seen of a kind up to a place: none, and it is still to be found, or one, and where its data lies.
pub record Seen (l : List ℕ) (kind size at k place : ℕ) : Type 0 where
  pub none : k ≡ 0 → tag_in at (run_of tag (drop at l)).entries kind ≡ tag_place l kind
  pub one : k ≡ 1 → (tag_place l kind ≡ some_data place size) × (place + size ≤ length l)

-- Data of a kind that has the right length has this size.
abbrev Sized : ℕ → ℕ → Type 0
Sized kind size = (k len : ℕ) → k ≡ kind → length_right k len ≡ true → size ≡ len

pub date-sized : Sized 0x05 4
unfolding length_right known_tags
date-sized k len e w = eqb-true 4 len (rw e at w)

pub place-sized : Sized 0x70 2
unfolding length_right known_tags
place-sized k len e w = eqb-true 2 len (rw e at w)

pub seen_none : (l : List ℕ) (kind size : ℕ) → Seen l kind size 0 0 0
unfolding tag_place
seen_none l kind size = record { none = λ z. refl; one = λ e. absurd (omega arith) }

module _ (l : List ℕ) (at n : ℕ) (e : n ≡ front tag (drop at l)) where
  tag-long : (n ≡ 0 → ⊥) → n ≡ 2 + get_or l (at + 1) 0
  tag-long z = go (leb (2 + get_or l (at + 1) 0) (length l - at)) refl
    where
      go : (b : Bool) → leb (2 + get_or l (at + 1) 0) (length l - at) ≡ b → n ≡ 2 + get_or l (at + 1) 0
      go true q = e ∙ tag-whole l at (leb-true (2 + get_or l (at + 1) 0) (length l - at) q)
      go false q = absurd (z (e ∙ tag-short l at (leb-false (2 + get_or l (at + 1) 0) (length l - at) q)))

  module _ (kind size : ℕ) (sized : Sized kind size) (k place : ℕ) (s : Seen l kind size at k place) where
    pub seen-turn : (m q : ℕ) → (n ≡ 0 → ⊥) → n ≤ length l - at → (r : Bool)
        → r ≡ length_right (get_or l at 0) (get_or l (at + 1) 0) → r ≡ true
        → m ≡ count_kind kind (get_or l at 0) k → q ≡ data_place kind (get_or l at 0) place at
        → Seen l kind size (at + n) m q
    unfolding count_kind data_place
    seen-turn m q z h r g w a b = go (eqb (get_or l at 0) kind) refl
      where
        go : (t : Bool) → eqb (get_or l at 0) kind ≡ t → Seen l kind size (at + n) m q
        go true f =
            let same : get_or l at 0 ≡ kind = eqb-true (get_or l at 0) kind f in
            let long : size ≡ get_or l (at + 1) 0 = sized (get_or l at 0) (get_or l (at + 1) 0) same (sym g ∙ w) in
            let count : m ≡ k + 1 = rw f at a in
            let here : q ≡ at + 2 = rw f at b in
            let held : n - 2 ≡ size = omega (arith, tag-long z) in
            record {
              none = λ y. absurd (omega arith);
              one =
                  λ y.
                  let first : k ≡ 0 = omega arith in (
                    rw here (sym (rw held at (find-here l at n e kind _ (s.none first) z same))),
                    omega
                        (arith, tag-long z),
                  );
            }
        go false f =
            let count : m ≡ k = rw f at a in
            let here : q ≡ place = rw f at b in
            record {
              none = λ y. find-turn l at n e kind _ (s.none (sym count ∙ y)) z (eqb-false (get_or l at 0) kind f);
              one = λ y. rw here (s.one (sym count ∙ y));
            }

    -- Behind the last tag all is seen.
    pub seen_all : n ≡ 0 → SeenTag l kind size k place
    seen_all z = record { none = λ o. sym (find-over l at n e kind _ (s.none o) z); one = s.one }

  -- k trade dates and i places were seen before.
  module _ (k i : ℕ) (inv : good_run (run_of tag (drop at l)) k i ≡ good_tags l) where
    pub run-stop : n ≡ 0 → at < length l → None ≡ tag_run_of l
    unfolding tag_run_of
    run-stop z h = rw (← (tags-stop l at n e k i _ inv z h))

    pub run-wrong : (n ≡ 0 → ⊥) → (r : Bool) → r ≡ length_right (get_or l at 0) (get_or l (at + 1) 0) → r ≡ false
        → None ≡ tag_run_of l
    unfolding tag_run_of
    run-wrong z r g w = rw (← (tags-wrong l at n e k i _ inv z r g w))

    module _ (z : n ≡ 0) (h : length l ≤ at) where
      pub run-dates : 1 < k → None ≡ tag_run_of l
      unfolding tag_run_of
      run-dates o = rw (← (tags-end l at n e k i _ inv z h), lt-leb k 1 o)

      module _ (dates : k ≤ 1) where
        pub run-places : 1 < i → None ≡ tag_run_of l
        unfolding tag_run_of
        run-places o = rw (← (tags-end l at n e k i _ inv z h), le-leb k 1 dates, lt-leb i 1 o)

        pub run-whole : i ≤ 1 → (d : TradeDate) (p : PacketPlace) → d ≡ trade_date_of l → p ≡ packet_place_of l
            → some_tags d p ≡ tag_run_of l
        unfolding tag_run_of
        run-whole o d p x y = rw (← (tags-end l at n e k i _ inv z h), le-leb k 1 dates, le-leb i 1 o, x, y)

-- What all that is seen says.
module _ (l : List ℕ) (k place : ℕ) where
  pub date-none : SeenTag l 0x05 4 k place → k ≡ 0 → None ≡ trade_date_of l
  unfolding trade_date_of
  date-none s o = rw (s.none o)

  pub date-one : SeenTag l 0x05 4 k place → k ≡ 1 → (v : ℕ) → v ≡ be32_of l place → Some v ≡ trade_date_of l
  unfolding trade_date_of
  date-one s o v w = rw ((s.one o).0, w)

  pub place_none : SeenTag l 0x70 2 k place → k ≡ 0 → None ≡ packet_place_of l
  unfolding packet_place_of
  place_none s o = rw (s.none o)

  pub place-one : SeenTag l 0x70 2 k place → k ≡ 1 → (v : ℕ) → v ≡ be16_of l place → Some v ≡ packet_place_of l
  unfolding packet_place_of
  place-one s o v w = rw ((s.one o).0, w)

-- What the answer says.
abbrev is_good : MaybeTags → Bool
is_good None = false
is_good (Some found) = true

abbrev date_in : MaybeTags → TradeDate
date_in None = None
date_in (Some found) = found.date

abbrev place_in : MaybeTags → PacketPlace
place_in None = None
place_in (Some found) = found.place

module _ (l : List ℕ) where
  good-is : is_good (tag_run_of l) ≡ good_tags l
  unfolding tag_run_of
  good-is = go (good_tags l)
    where
      go : (b : Bool) → is_good (cond b (some_tags (trade_date_of l) (packet_place_of l)) None) ≡ b
      go true = refl
      go false = refl

  pub run-broken : (r : MaybeTags) → r ≡ tag_run_of l → r ≡ None → good_tags l ≡ false
  run-broken r q w = sym good-is ∙ ap is_good (sym q ∙ w)

  module _ (r : MaybeTags) (d : TradeDate) (p : PacketPlace) (q : r ≡ tag_run_of l) (w : r ≡ some_tags d p) where
    pub run-good : good_tags l ≡ true
    run-good = sym good-is ∙ ap is_good (sym q ∙ w)

    pub run-date : d ≡ trade_date_of l
    unfolding tag_run_of
    run-date = ap date_in (sym w ∙ q) ∙ rw run-good

    pub run-place : p ≡ packet_place_of l
    unfolding tag_run_of
    run-place = ap place_in (sym w ∙ q) ∙ rw run-good
