-- What Opening and Answer of a receiving end come to, one case each, in any state. Assumes nothing.
use Prim.Native.Nat.{ℕ}
use native.Mathlib.Omega.{arith}
use mathlib.Core.Path.{◌≡◌, refl}
use mathlib.Core.List.{List}
use mathlib.Core.Bool.{true, false, not, ◌||◌}
use borrow.Author.Tests.{eqb-true, not-false}
use lib.Dec.{eqb}
use Rattle.ftd.specs.Login.{login_tid}
use Rattle.ftd.specs.Bytes.{part}
use Rattle.ftd.specs.Packet.{dated_of, not_one_packet, no_message_packet}
use Rattle.ftd.specs.Items.{wrong_width, wrong_item}
use Rattle.ftd.specs.Composition.{composed}
use Rattle.ftd.specs.declared.composition.Direction.TheVariants.{Down}
use Rattle.ftd.specs.declared.refusal.Refusal.{Refusal}
use Rattle.ftd.specs.declared.refusal.Refusal.TheVariants.{FieldLength, Item, Composition, Opening, NotOnePacket}
use Rattle.ftd.specs.declared.refusal.Refusal.TheVariants.{UnknownSeries, OtherDay, OutOfLine}
use Rattle.ftd.specs.Types.{TradeDate}
use Rattle.ftd.specs.declared.packet.Header.{Header}
use Rattle.ftd.specs.declared.packet.Packet.{Packet}
use Rattle.ftd.specs.declared.packet.Packet.TheVariants.{Short, Link, Skipped, Message}
use Rattle.ftd.specs.declared.packet.Packet.TheVariants.{Refused as Unread}
use Rattle.flow.specs.Types.{Opened}
use Rattle.flow.specs.declared.receiver.Receiver.{Receiver}
use Rattle.flow.specs.Types.{Confirmed}
use Rattle.flow.specs.Ends.{Left, left, wrong_series, before, logged_in, is_open, kept_of, with_series}
use Rattle.flow.specs.Serving.{no_login, not_zero}
use Rattle.flow.specs.Receiving.{wrong_end_opening, open_end_of, wrong_day, last_after, confirm_with, confirm_read}
use Rattle.flow.specs.Receiving.{confirm_login_of}
use Rattle.flow.proofs.common.Rows.{by-when}
use Rattle.flow.proofs.common.Bools.{or-neither}
use Rattle.flow.proofs.ends.ReceiverOpened.{opened_with}
use Rattle.std.specs.Prelude.{Some, None, Ok, Err}

-- ─── Opening ───

pub data Opened-as (e : Receiver) (ss : List ℕ) : Left Receiver Opened → Type 0 where
  refuses : Opened-as e ss (left e (Err Opening))
  opens : e.kept.count ≡ 0 → wrong_series ss ≡ false → Opened-as e ss (left (opened_with ss) (Ok tt))

pub open-as : (e : Receiver) (ss : List ℕ) → Opened-as e ss (open_end_of e ss)
unfolding open_end_of
open-as e ss =
    by-when (Opened-as e ss) (wrong_end_opening e ss) (λ q. refuses) λ q.
    let x = or-neither (not (eqb e.kept.count 0)) (wrong_series ss) q in
    opens (eqb-true e.kept.count 0 (not-false (eqb e.kept.count 0) x.0)) x.1

-- ─── Answer ───

-- Taken, it bears a day, and one that is not below the kept one.
pub data Confirmed-as (e : Receiver) (s : ℕ) (date : TradeDate) : Left Receiver Confirmed → Type 0 where
  refuses : (r : Refusal) → Confirmed-as e s date (left e (Err r))
  confirms : (d : ℕ) → date ≡ Some d → is_open e s ≡ true → before (Some d) (kept_of e s).date ≡ false
      → Confirmed-as e s date (left (with_series e s date (last_after e s date) logged_in) (Ok (last_after e s date)))

right-day : (e : Receiver) (s : ℕ) (date : TradeDate) → wrong_day e s date ≡ false
    → (d : ℕ) × (date ≡ Some d) × (before (Some d) (kept_of e s).date ≡ false)
right-day e s None q = let z : ◌≡◌ {A = ℕ} 0 1 = cc in absurd (omega arith)
right-day e s (Some d) q = (d, refl, q)

confirm-with : (e : Receiver) (s : ℕ) (h : Header) (date : TradeDate) (content : List ℕ)
    → Confirmed-as e s date (confirm_with e s h date content)
unfolding confirm_with
confirm-with e s h date content =
    by-when P (wrong_width content) (λ q. refuses FieldLength) λ q.
    by-when P (wrong_item content) (λ q. refuses Item) λ q.
    by-when P (no_login h || not (composed login_tid Down content)) (λ q. refuses Composition) λ q.
    by-when P (not (is_open e s)) (λ q. refuses UnknownSeries) λ a.
    by-when P (wrong_day e s date) (λ q. refuses OtherDay) λ b.
    by-when P (not_zero h) (λ q. refuses OutOfLine) λ q.
    let r = right-day e s date b in
    confirms r.0 r.1 (not-false (is_open e s) a) r.2
  where
    P : Left Receiver Confirmed → Type 0
    P = Confirmed-as e s date

confirm-read : (e : Receiver) (s : ℕ) (p : List ℕ) (date : TradeDate) (x : Packet)
    → Confirmed-as e s date (confirm_read e s p date x)
confirm-read e s p date (Short n) = refuses NotOnePacket
confirm-read e s p date (Link kind extension) = refuses NotOnePacket
confirm-read e s p date (Skipped kind extension body) = refuses NotOnePacket
confirm-read e s p date (Message h extension c) = confirm-with e s h date (part p c.start c.len)
confirm-read e s p date (Unread r) = refuses r

pub confirm-as : (e : Receiver) (s : ℕ) (p : List ℕ) → Confirmed-as e s (dated_of p).date (confirm_login_of e s p)
unfolding confirm_login_of
confirm-as e s p =
    by-when (Confirmed-as e s (dated_of p).date) (not_one_packet p || no_message_packet p) (λ q. refuses NotOnePacket) λ q.
    confirm-read e s p (dated_of p).date (dated_of p).packet
