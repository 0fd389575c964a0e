-- A login packet that Ask wrote, as Login reads it: of the row of tests only those of the answer's content, the series,
-- the trade dates, the output and the start are left. Assumes nothing.
use Prim.Native.Nat.{ℕ, ◌≤◌}
use native.Mathlib.Omega.{arith}
use mathlib.Core.Path.{◌≡◌, refl, ◌∙◌}
use mathlib.Core.List.{List, [], ◌∷◌, ◌++◌}
use mathlib.Core.Bool.{true, false, not, ◌||◌}
use borrow.Author.Tests.{ltb-false, not-false}
use lib.ListN.{length, drop}
use lib.Seq.{take-append_seam}
use lib.Dec.{T, ltb, eqb}
use Rattle.ftd.specs.Login.{login_tid, login_header, login_bytes}
use Rattle.ftd.specs.Fields.{shaped, count_of, packet_content}
use Rattle.ftd.specs.Items.{wrong_width, wrong_item}
use Rattle.ftd.specs.Composition.{composed}
use Rattle.ftd.specs.Resume.{resume_of, resume_bytes, resume_fid}
use Rattle.ftd.specs.declared.refusal.Refusal.{Refusal}
use Rattle.ftd.specs.declared.refusal.Refusal.TheVariants.{FieldRun, FieldLength, Item, Composition, UnknownSeries}
use Rattle.ftd.specs.declared.refusal.Refusal.TheVariants.{OtherDay, TooSmall, WrongStart}
use Rattle.ftd.specs.declared.composition.Direction.TheVariants.{Up, Down}
use Rattle.ftd.specs.Types.{TradeDate}
use Rattle.ftd.specs.declared.resume.Resume.TheVariants.{Next}
use Rattle.ftd.proofs.resume.Behind.{counts, back}
use Rattle.flow.specs.declared.sender.Sender.{Sender}
use Rattle.flow.specs.Types.{LoggedIn}
use Rattle.flow.specs.declared.receiver.Receiver.{Receiver}
use Rattle.flow.specs.Types.{Requested}
use Rattle.flow.specs.Ends.{◌when◌else◌, Wrote, wrote, over, before, is_served, with_place, is_open, kept_of}
use Rattle.flow.specs.Answers.{is_taken, written, requested_said}
use Rattle.flow.specs.Serving.{wrong_run, start_of, wrong_start, login_with, login_of}
use Rattle.flow.specs.Receiving.{next_wanted, request_of, request_bytes, request_login_of}
use Rattle.flow.proofs.common.Rows.{by-when}
use Rattle.flow.proofs.common.Bools.{or-neither}
use Rattle.ftd.proofs.chain.Singles.{shaped-ended}
use Rattle.ftd.proofs.resume.Content.{start-shaped}
use Rattle.flow.proofs.packets.Logins.{login-given}
use Rattle.std.specs.Prelude.{Ok, Err}

-- ─── Content with a start field behind it that Ask takes, for a series and a next number ───

abbrev pub full_of : ℕ → ℕ → List ℕ → List ℕ
full_of s next c = c ++ resume_bytes s next

-- Rows 7 to 10 of Ask.
pub record Asking (s next : ℕ) (c : List ℕ) : Type 0 where
  pub shape : shaped c 4068 ≡ true
  pub widths : wrong_width (full_of s next c) ≡ false
  pub items : wrong_item (full_of s next c) ≡ false
  pub none : count_of resume_fid c ≡ 0
  pub composes : composed login_tid Up (full_of s next c) ≡ true

-- ─── A login packet with such content ───

module _ (s next : ℕ) (date : TradeDate) (c : List ℕ) (a : Asking s next c) where
  pub full-shaped : shaped (full_of s next c) 4080 ≡ true
  full-shaped = start-shaped c s next 4068 a.shape

  -- Its one start field says series and next number.
  pub request-start : resume_of (full_of s next c) ≡ Next s next
  request-start = back c s next (shaped-ended c 4068 a.shape) a.none

  pub request-count : count_of resume_fid (full_of s next c) ≡ 1
  request-count = counts c s next (shaped-ended c 4068 a.shape) ∙ rw a.none

-- ─── What Login makes of it ───

-- The row of tests that is left; t is Login's series, s the request's.
unfoldable pub login_by_ask : Sender → ℕ → ℕ → TradeDate → ℕ → List ℕ → List ℕ → Wrote Sender LoggedIn
login_by_ask e t s date next content out =
    refused FieldRun when wrong_run content packet_content else
    refused FieldLength when wrong_width content else
    refused Item when wrong_item content else
    refused Composition when not (composed login_tid Down content) else
    refused UnknownSeries when not (is_served e t) || not (eqb s t) else
    refused OtherDay when before e.day.date date else
    refused TooSmall when ltb (length out) (length answer) else
    refused WrongStart when wrong_start e t start else
    wrote (with_place e t start 0) (Ok (length answer)) (over answer out)
  where
    refused : Refusal → Wrote Sender LoggedIn
    refused r = wrote e (Err r) out

    start : ℕ
    start = start_of e date (Next s next)

    answer : List ℕ
    answer = login_bytes e.day.date content

pub login-by-ask : (s next : ℕ) (date : TradeDate) (c : List ℕ) → Asking s next c
    → (e : Sender) (t : ℕ) (content out : List ℕ)
    → login_of e t (login_bytes date (full_of s next c)) content out ≡ login_by_ask e t s date next content out
unfolding login_with login_header login_by_ask
login-by-ask s next date c a e t content out =
    login-given date (full_of s next c) (full-shaped s next date c a) e t content out
    ∙ rw (a.widths, a.items, a.composes, request-count s next date c a, request-start s next date c a)

-- ─── Ask ───

-- All its tests passed.
pub record Asks (e : Receiver) (s : ℕ) (c out : List ℕ) : Type 0 where
  pub asking : Asking s (next_wanted (kept_of e s).last) c
  pub opens : is_open e s ≡ true
  pub room : length (request_bytes e s c) ≤ length out

module _ (e : Receiver) (s : ℕ) (c out : List ℕ) where
  abbrev Result : Wrote Receiver Requested
  Result = request_login_of e s c out

  -- A claim of Ask's outcome: of a refusal, which leaves all as it was, and of the packet written.
  pub by-request : (P : Wrote Receiver Requested → Type 0) → ((r : Refusal) → P (wrote e (Err r) out))
      → (Asks e s c out → P (wrote e (Ok (length (request_bytes e s c))) (over (request_bytes e s c) out))) → P Result
  unfolding request_login_of request_of
  by-request P f g =
      by-when P (wrong_run c 4068) (λ q. f FieldRun) λ h7.
      by-when P (wrong_width (request_of e s c)) (λ q. f FieldLength) λ h8.
      by-when P (wrong_item (request_of e s c)) (λ q. f Item) λ h9.
      by-when P (ltb 0 (count_of resume_fid c) || not (composed login_tid Up (request_of e s c))) (λ q. f Composition)
      λ h10.
      by-when P (not (is_open e s)) (λ q. f UnknownSeries) λ h13.
      by-when P (ltb (length out) (length (request_bytes e s c))) (λ q. f TooSmall) λ h18.
      let n = or-neither (ltb 0 (count_of resume_fid c)) (not (composed login_tid Up (request_of e s c))) h10 in
      let z = ltb-false 0 (count_of resume_fid c) n.0 in
      g (record {
        asking =
            record {
              shape = not-false (shaped c 4068) h7;
              widths = h8;
              items = h9;
              none = omega arith;
              composes = not-false _ n.1;
            };
        opens = not-false (is_open e s) h13;
        room = ltb-false (length out) (length (request_bytes e s c)) h18;
      })

  -- The end stays.
  pub request-end : Result.end ≡ e
  request-end = by-request (λ (w : Wrote Receiver Requested). w.end ≡ e) (λ r. refl) (λ a. refl)

  -- Taken, its tests passed.
  pub request-taken : T (is_taken (requested_said Result.answer)) → Asks e s c out
  request-taken =
      by-request (λ (w : Wrote Receiver Requested). T (is_taken (requested_said w.answer)) → Asks e s c out)
      (λ r t. absurd t) (λ a t. a)

  -- What it puts on the line: nothing, or the login packet.
  pub by_written : (P : List (List ℕ) → Type 0) → P []
      → (Asks e s c out → P (login_bytes (kept_of e s).date (full_of s (next_wanted (kept_of e s).last) c) ∷ []))
      → P (written Result.bytes (requested_said Result.answer))
  unfolding request_bytes request_of
  by_written P f g =
      by-request (λ (w : Wrote Receiver Requested). P (written w.bytes (requested_said w.answer))) (λ r. f)
      λ a. rw (take-append_seam (request_bytes e s c) (drop (length (request_bytes e s c)) out)) (g a)
