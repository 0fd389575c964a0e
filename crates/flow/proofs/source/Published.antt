-- A Publish that is taken keeps the serving end right: the log holds one entry more, the one that Send will find.
-- Assumes nothing.
use Prim.Native.Nat.{ℕ, suc, ◌+◌, ◌≤◌}
use native.Mathlib.Omega.{arith}
use mathlib.Core.Path.{◌≡◌, refl, ap, ◌∙◌, sym}
use mathlib.Core.List.{List, [], ◌∷◌, ◌++◌, append-nil}
use mathlib.Core.Bool.{Bool, true, false, cond}
use borrow.Author.Tests.{eqb-true, eqb-false}
use lib.ListN.{length, take, drop, length-append}
use lib.Seq.{take_at, length-take-le}
use lib.Dec.{eqb}
use Rattle.ftd.specs.Bytes.{joined, put}
use Rattle.ftd.proofs.chain.Laws.{joined-append}
use Rattle.ftd.proofs.bytes.Put.{length-put}
use Rattle.ftd.specs.Types.{TradeDate}
use Rattle.flow.specs.declared.sender.Place.{Place}
use Rattle.flow.specs.declared.sender.Sender.{Sender}
use Rattle.flow.specs.Ends.{most_messages, member, is_day, up_to, day_series, is_served, published_of, place_of}
use Rattle.flow.specs.Ends.{with_entry}
use Rattle.flow.specs.Log.{entry_bytes, times}
use Rattle.flow.specs.Answers.{Message}
use Rattle.flow.specs.World.{Dated, dated}
use Rattle.flow.proofs.common.Days.{above_other, day-is}
use Rattle.flow.proofs.source.Logs.{Pub, laid, Holds, entry_length}
use Rattle.flow.proofs.source.Histories.{pub_of, on_day, on_date, messages_of, day-append, messages-append}
use Rattle.flow.proofs.source.Histories.{date-append, series_back, laid-append, times-back, sound-kept}
use Rattle.flow.proofs.source.Histories.{sound-append}
use Rattle.flow.proofs.ends.SenderLookups.{served-entry, published-entry, published-other, place-entry}
use Rattle.flow.proofs.ends.SenderLookups.{eight-entry}
use Rattle.flow.proofs.calls.Serving.{PublishTests}
use Rattle.flow.proofs.source.Served.{Placed, Served}
use Rattle.flow.proofs.common.Bools.{not-both}
use Rattle.std.specs.Prelude.{None}

-- One more in its own series, none in another.
pub count-append : (u s : ℕ) (m : Message) (ps : List Pub)
    → length (messages_of u (ps ++ (pub_of s m ∷ []))) ≡ length (messages_of u ps) + cond (eqb s u) 1 0
count-append u s m ps =
    ap length (messages-append u ps (pub_of s m ∷ [])) ∙ length-append (messages_of u ps) (messages_of u (pub_of s m ∷ []))
    ∙ ap (λ (n : ℕ). length (messages_of u ps) + n) (go (eqb s u))
  where
    go : (b : Bool) → length (cond b (m ∷ []) []) ≡ cond b 1 0
    go true = refl
    go false = refl

module _
    (e : Sender) (log : List ℕ) (day : TradeDate) (history : List (Dated Message)) (h : Served e log day history)
    (s tid : ℕ) (content : List ℕ) (t : PublishTests e s tid content log) where
  abbrev size : ℕ
  size = 16 + length content

  abbrev what : Message
  what = record { tid = tid; content = content }

  abbrev later : List (Dated Message)
  later = history ++ (dated s day what ∷ [])

  abbrev bytes : List ℕ
  bytes = entry_bytes s tid (published_of e s + 1) content

  is-opened : day ≡ None → ⊥
  unfolding is_served
  is-opened q = not-both (member s (day_series e)) t.served (ap (member s) (h.unopened q).0)

  now : on_date day later ≡ on_date day history ++ (pub_of s what ∷ [])
  now = date-append day history s what is-opened

  -- ─── Counts ───

  counted-entry : (u : ℕ) → is_served e u ≡ true
      → published_of (with_entry e s size) u ≡ length (messages_of u (on_date day later))
  counted-entry u q =
      go (eqb s u) refl
      ∙ sym (ap (λ (l : List Pub). length (messages_of u l)) now ∙ count-append u s what (on_date day history))
    where
      go : (b : Bool) → eqb s u ≡ b → published_of (with_entry e s size) u ≡ length
          (messages_of u (on_date day history)) + cond (eqb s u) 1 0
      go true c =
          rw c (rw (← eqb-true s u c)
          (published-entry e s t.served size ∙ ap (λ (n : ℕ). n + 1) (h.counted s t.served)))
      go false c =
          let a = published-other e s t.served size u (λ p. eqb-false s u c (sym p)) in
          let b = h.counted u q in
          rw c (omega arith)

  few-entry : (u d : ℕ) → length (messages_of u (on_day d later)) ≤ most_messages
  few-entry u d = rw (day-append d history (dated s day what ∷ [])) (go (is_day d day) refl)
    where
      go : (b : Bool) → is_day d day ≡ b → length
          (messages_of u (on_day d history ++ cond b (pub_of s what ∷ []) [])) ≤ most_messages
      go false c = rw append-nil (h.few u d)
      go true c =
          rw (count-append u s what (on_day d history)) (here (eqb s u) refl)
        where
          here : (b : Bool) → eqb s u ≡ b → length (messages_of u (on_day d history)) + cond b 1 0 ≤ most_messages
          here false p = let k = h.few u d in omega arith
          here true p =
              let k : published_of e s ≡ length (messages_of s (on_day d history)) =
              rw (day-is d day c) at (h.counted s t.served) in
              let n = t.few in
              rw (← eqb-true s u p) (omega arith)

  later-entry : (d : ℕ) → up_to d day ≡ false → on_day d later ≡ []
  later-entry d q = day-append d history (dated s day what ∷ []) ∙ rw (h.not-later d q, above_other d day q)

  -- ─── The log ───

  bytes-long : length bytes ≡ size
  bytes-long = entry_length s tid (published_of e s + 1) content

  number_is : suc (times s (series_back [] (on_date day history))) ≡ published_of e s + 1
  number_is = let a = times-back s [] (on_date day history) in let b = h.counted s t.served in omega arith

  laid-entry : take (e.day.used + size) (put log e.day.used bytes) ≡ joined
      (laid [] (on_date day history ++ (pub_of s what ∷ [])))
  unfolding put
  laid-entry =
      let ps = on_date day history in
      let long : length (take e.day.used log ++ bytes) ≡ e.day.used + size =
      length-append (take e.day.used log) bytes
      ∙ ap (λ (n : ℕ). n + length bytes) (length-take-le e.day.used log t.inside)
      ∙ ap (λ (n : ℕ). e.day.used + n) bytes-long in
      take_at (take e.day.used log ++ bytes) (drop (e.day.used + length bytes) log) (e.day.used + size) long
      ∙ ap (λ (l : List ℕ). l ++ bytes) h.holds.laid_out
      ∙ ap (λ (l : List ℕ). joined (laid [] ps) ++ l)
      (sym (append-nil bytes) ∙ ap (λ (n : ℕ). entry_bytes s tid n content ++ []) (sym number_is))
      ∙ sym (ap joined (laid-append [] ps (pub_of s what)) ∙ joined-append (laid [] ps) _)

  used-entry : (with_entry e s size).day.used ≡ e.day.used + size
  unfolding with_entry
  used-entry = refl

  holds-entry : Holds (with_entry e s size) (put log e.day.used bytes) (on_date day history ++ (pub_of s what ∷ []))
  holds-entry =
      let room : e.day.used + length bytes ≤ length log = rw bytes-long t.fits in
      record {
        inside = rw (used-entry, length-put log e.day.used bytes room) t.fits;
        laid_out = rw used-entry laid-entry;
        sound =
            sound-append (with_entry e s size) (on_date day history) (pub_of s what)
            (sound-kept e (with_entry e s size) (on_date day history) (served-entry e s t.served size)
            h.holds.sound)
            (served-entry e s t.served size s ∙ t.served) t.run;
      }

  -- ─── All of it ───

  more-published : (u : ℕ) → published_of e u ≤ published_of (with_entry e s size) u
  more-published u = go (eqb s u) refl
    where
      go : (b : Bool) → eqb s u ≡ b → published_of e u ≤ published_of (with_entry e s size) u
      go true c = rw (← eqb-true s u c) (let k = published-entry e s t.served size in omega arith)
      go false c = let k = published-other e s t.served size u (λ p. eqb-false s u c (sym p)) in omega arith

  date-entry : (with_entry e s size).day.date ≡ e.day.date
  unfolding with_entry
  date-entry = refl

  placed-entry : (u : ℕ) → is_served e u ≡ true → (place_of (with_entry e s size) u).login ≡ true
      → Placed (with_entry e s size) u
  placed-entry u q l =
      let o = place-entry e s t.served size u in
      let p = h.placed u q (ap (λ (x : Place). x.login) (sym o) ∙ l) in
      let m = more-published u in
      rw o (p.0, omega arith)

  pub served-published : Served (with_entry e s size) (put log e.day.used bytes) day later
  served-published = record {
    eight = eight-entry e s t.served h.eight size;
    same-day = date-entry ∙ h.same-day;
    unopened = λ q. absurd (is-opened q);
    counted = λ u q. counted-entry u (sym (served-entry e s t.served size u) ∙ q);
    not-later = later-entry;
    few = few-entry;
    holds = rw now holds-entry;
    placed = λ u q. placed-entry u (sym (served-entry e s t.served size u) ∙ q);
  }
