-- A share of the log for each series (02, No. 11). The chain: a call leaves the accounts right (`Accounts`) and, with a
-- log of one length, the shares within it (`Within`); an entry within its series' reserve leaves the shares as they are.
-- Assumes nothing.
use Prim.Native.Nat.{ℕ, zero, suc, ◌+◌, ◌-◌, ◌≤◌, ◌<◌}
use native.Mathlib.Omega.{arith}
use mathlib.Core.Path.{◌≡◌, refl, sym, ap, ◌∙◌}
use mathlib.Core.Logic.{◌⊎◌, inl, inr}
use mathlib.Core.List.{List, [], ◌∷◌, map}
use mathlib.Core.Bool.{Bool, true, false, cond, not, ◌||◌}
use borrow.Author.Tests.{ltb-true, ltb-false, lt-ltb, le-ltb, not-true, not-false}
use lib.ListN.{length, get_or, take, set, length-map}
use lib.Dec.{T, ltb, leb, eqb}
use Rattle.ftd.specs.Fields.{most_content}
use Rattle.ftd.specs.Items.{wrong_width, wrong_item}
use Rattle.ftd.specs.Composition.{composed}
use Rattle.ftd.specs.Refusal.{number_of}
use Rattle.ftd.specs.Bench.{all_same}
use Rattle.ftd.specs.declared.composition.Direction.TheVariants.{Down}
use Rattle.ftd.specs.declared.refusal.Refusal.TheVariants.{TooSmall}
use Rattle.flow.specs.declared.sender.DaySeries.{DaySeries}
use Rattle.flow.specs.declared.sender.Sender.{Sender}
use Rattle.flow.specs.Types.{Opened}
use Rattle.flow.specs.Types.{Published}
use Rattle.flow.specs.Types.{LoggedIn}
use Rattle.flow.specs.Ends.{Left, Wrote, most_messages, index_of, no_series, fresh_sender, day_series, is_served}
use Rattle.flow.specs.Ends.{published_of, reserve_of, used_of, grown_series, with_entry, with_place, opened_series, sum_of}
use Rattle.flow.specs.Ends.{share_of, shares_of}
use Rattle.flow.specs.Log.{log_short, entry_fits}
use Rattle.flow.specs.Serving.{wrong_run, over_shares, open_day_of, publish_of, login_of, send_of, send_packet_of}
use Rattle.flow.specs.Serving.{after_packet, last_packet}
use Rattle.flow.specs.Shares.{ServingCall, opening, publish, login, send, send_packet, served, served_all, OneLength}
use Rattle.flow.specs.Shares.{is_opening, from_opening, with_published, counted, counted_all}
use Rattle.flow.specs.Shares.{AllOneLength, used_bytes, reserves, AllZero, refused_before, example_rows, Shares}
use Rattle.flow.proofs.common.Bools.{or-neither}
use Rattle.flow.proofs.common.Rows.{by-when}
use Rattle.flow.proofs.ends.Lookups.{index-inside}
use Rattle.flow.proofs.ends.SenderOpened.{opened_sender, opened-taken}
use Rattle.flow.proofs.calls.Serving.{OpenDone, open-refused, open-taken, open-cases, PublishDone}
use Rattle.flow.proofs.calls.Serving.{publish-refused, publish-taken, publish-cases, LoginDone, login-refused}
use Rattle.flow.proofs.calls.Serving.{login-taken, login-cases, SendDone, send-unknown, send-outside}
use Rattle.flow.proofs.calls.Serving.{send-drained, send-damaged, send-small, send-taken, send-cases, PacketDone}
use Rattle.flow.proofs.calls.Serving.{packet-unknown, packet-outside, packet-drained, packet-damaged}
use Rattle.flow.proofs.calls.Serving.{packet-missing, packet-small, packet-taken, packet-cases}
use Rattle.flow.proofs.single.Accounts.{refused-11, unchanged, taken, given, reserve-place, reserve-entry}
use Rattle.flow.proofs.single.Accounts.{used-place, used-entry, opened-used, fresh-used, either_way}
use Rattle.flow.proofs.bench.Opened.{opened}
use Rattle.std.specs.Prelude.{Ok, Err}
use Rattle.flow.specs.Types.{SendAnswer, PacketSent}

-- ─── Sums ───

-- One place is changed.
sum-set : {A : Type 0} (f : A → ℕ) (n : ℕ) (l : List A) (i : ℕ) (y d : A) → i < length (take n l)
    → sum_of (map f (take n (set l i y))) + f (get_or l i d) ≡ sum_of (map f (take n l)) + f y
sum-set f zero l i y d h = absurd (omega arith)
sum-set f (suc n) [] i y d h = absurd (omega arith)
sum-set f (suc n) (x ∷ l) zero y d h = omega arith
sum-set f (suc n) (x ∷ l) (suc i) y d h = let k = sum-set f n l i y d (omega arith) in omega arith

share-least : (x : DaySeries) → x.used ≤ share_of x
share-least x = go (ltb x.used x.reserve) refl
  where
    go : (b : Bool) → ltb x.used x.reserve ≡ b → x.used ≤ cond b x.reserve x.used
    go true q = let k = ltb-true x.used x.reserve q in omega arith
    go false q = omega arith

sum-least : (xs : List DaySeries) → sum_of (map (λ (x : DaySeries). x.used) xs) ≤ sum_of (map share_of xs)
sum-least [] = omega arith
sum-least (x ∷ xs) = let a = share-least x in let b = sum-least xs in omega arith

-- A share is the reserve while the bytes used are within it, and the bytes used without one.
share-within : (x : DaySeries) → x.used ≤ x.reserve → share_of x ≡ x.reserve
share-within x h = go (ltb x.used x.reserve) refl
  where
    go : (b : Bool) → ltb x.used x.reserve ≡ b → cond b x.reserve x.used ≡ x.reserve
    go true q = refl
    go false q = let k = ltb-false x.used x.reserve q in omega arith

share-zero : (x : DaySeries) → x.reserve ≡ 0 → share_of x ≡ x.used
share-zero x h = rw (h, le-ltb x.used 0 (omega arith))

sum-zero : (xs : List DaySeries) → AllZero (map (λ (x : DaySeries). x.reserve) xs)
    → sum_of (map share_of xs) ≡ sum_of (map (λ (x : DaySeries). x.used) xs)
sum-zero [] h = refl
sum-zero (x ∷ xs) h = let a = share-zero x h.0 in let b = sum-zero xs h.1 in omega arith

zero-at : (n : ℕ) (l : List DaySeries) (i : ℕ) (d : DaySeries)
    → AllZero (map (λ (x : DaySeries). x.reserve) (take n l)) → i < length (take n l) → (get_or l i d).reserve ≡ 0
zero-at zero l i d h k = absurd (omega arith)
zero-at (suc n) [] i d h k = absurd (omega arith)
zero-at (suc n) (x ∷ l) zero d h k = h.0
zero-at (suc n) (x ∷ l) (suc i) d h k = zero-at n l i d h.1 (omega arith)

-- ─── An entry more ───

module _ (e : Sender) (s : ℕ) (o : is_served e s ≡ true) (size : ℕ) where
  abbrev all : List DaySeries
  all = e.day.series

  abbrev at : ℕ
  at = index_of s (day_series e)

  inside : at < length (take e.day.count all)
  unfolding is_served day_series
  inside =
      let a = index-inside s (day_series e) o in
      let b = length-map (take e.day.count all) (λ (x : DaySeries). x.series) in
      omega arith

  used-more : sum_of (used_bytes (with_entry e s size)) ≡ sum_of (used_bytes e) + size
  unfolding with_entry used_of
  used-more =
      let k = sum-set (λ (x : DaySeries). x.used) e.day.count all at (grown_series e s size) no_series inside in
      omega arith

  shares-more : shares_of (with_entry e s size) + share_of (get_or all at no_series) ≡ shares_of e + share_of
      (grown_series e s size)
  unfolding with_entry shares_of
  shares-more = sum-set share_of e.day.count all at (grown_series e s size) no_series inside

  pub used-day : (with_entry e s size).day.used ≡ e.day.used + size
  unfolding with_entry
  used-day = refl

  -- Within the reserve the shares stay.
  shares-same : used_of e s + size ≤ reserve_of e s → shares_of (with_entry e s size) ≡ shares_of e
  unfolding used_of reserve_of
  shares-same h =
      let x : DaySeries = get_or all at no_series in
      let a = share-within x (omega arith) in
      let b = share-within (grown_series e s size) h in
      let k = shares-more in
      omega arith

  -- Without reserves they are the bytes used.
  shares-used : AllZero (reserves e) → shares_of (with_entry e s size) ≡ sum_of (used_bytes e) + size
  unfolding used_of reserve_of shares_of
  shares-used h =
      let x : DaySeries = get_or all at no_series in
      let z = zero-at e.day.count all at no_series h inside in
      let a = share-zero x z in
      let b = share-zero (grown_series e s size) z in
      let c = sum-zero (take e.day.count all) h in
      let k = shares-more in
      omega arith

-- ─── Accounts ───

pub record Accounts (e : Sender) : Type 0 where
  pub sum : e.day.used ≡ sum_of (used_bytes e)

-- The shares are within a length.
abbrev pub Within : ℕ → Sender → Type 0
Within n e = shares_of e ≤ n

pub accounts-least : (e : Sender) → Accounts e → e.day.used ≤ shares_of e
unfolding shares_of
accounts-least e a = let h = a.sum in let k = sum-least (take e.day.count e.day.series) in omega arith

pub entry-accounts : (e : Sender) (s : ℕ) → is_served e s ≡ true → (size : ℕ) → Accounts e → Accounts (with_entry e s size)
entry-accounts e s o size a =
    record { sum = let h = a.sum in let k = used-more e s o size in let d = used-day e s o size in omega arith }

pub fresh-accounts : Accounts fresh_sender
unfolding fresh_sender
fresh-accounts = record { sum = refl }

-- A place changes no account.
place-accounts : (e : Sender) (s next piece : ℕ) → Accounts e → Accounts (with_place e s next piece)
unfolding with_place
place-accounts e s next piece a = record { sum = a.sum }

place-within : (e : Sender) (s next piece n : ℕ) → Within n e → Within n (with_place e s next piece)
unfolding with_place shares_of
place-within e s next piece n h = h

opened-none : (ss rs : List ℕ) → sum_of (map (λ (x : DaySeries). x.used) (opened_series ss rs)) ≡ 0
opened-none [] rs = refl
opened-none (s ∷ ss) [] = let k = opened-none ss [] in omega arith
opened-none (s ∷ ss) (r ∷ rs) = let k = opened-none ss rs in omega arith

opened_shares : (ss rs : List ℕ) → sum_of (map share_of (opened_series ss rs)) ≤ sum_of rs
opened_shares [] rs = omega arith
opened_shares (s ∷ ss) [] =
    let a = share-zero (record { series = s; published = 0; reserve = 0; used = 0 }) refl in
    let k = opened_shares ss [] in
    omega arith
opened_shares (s ∷ ss) (r ∷ rs) =
    let a = share-within (record { series = s; published = 0; reserve = r; used = 0 }) (omega arith) in
    let k = opened_shares ss rs in
    omega arith

pub opened-accounts : (date : ℕ) (ss rs : List ℕ) → Accounts (opened_sender date ss rs)
opened-accounts date ss rs = record { sum = rw (opened-taken ss rs) (sym (opened-none ss rs)) }

opened-within : (date : ℕ) (ss rs : List ℕ) (n : ℕ) → sum_of rs ≤ n → Within n (opened_sender date ss rs)
unfolding shares_of
opened-within date ss rs n h = rw (opened-taken ss rs) (let k = opened_shares ss rs in omega arith)

-- ─── Every call ───

-- A claim that a place does not change, that an opening makes, and that an entry keeps which was taken.
module _ (Q : Sender → Type 0)
    (places : (e : Sender) (s next piece : ℕ) → Q e → Q (with_place e s next piece)) where
  opening-keeps : (e : Sender) (date : ℕ) (ss rs log : List ℕ) → (sum_of rs ≤ length log → Q (opened_sender date ss rs))
      → Q e → Q (open_day_of e date ss rs log).end
  opening-keeps e date ss rs log f q = go (open_day_of e date ss rs log) (open-cases e date ss rs log)
    where
      go : (r : Left Sender Opened) → OpenDone e date ss rs log r → Q r.end
      go r (open-refused x) = q
      go r (open-taken a b c d) = f c

  publish-keeps : (e : Sender) (s t : ℕ) (content log : List ℕ)
      → (is_served e s ≡ true → shares_of (with_entry e s (16 + length content)) ≤ length log
      → Q (with_entry e s (16 + length content)))
      → Q e → Q (publish_of e s t content log).end
  publish-keeps e s t content log f q = go (publish_of e s t content log) (publish-cases e s t content log)
    where
      go : (r : Wrote Sender Published) → PublishDone e s t content log r → Q r.end
      go r (publish-refused x) = q
      go r (publish-taken p) = f p.served p.shares

  login-keeps : (e : Sender) (s : ℕ) (p content out : List ℕ) → Q e → Q (login_of e s p content out).end
  login-keeps e s p content out q = go (login_of e s p content out) (login-cases e s p content out)
    where
      go : (r : Wrote Sender LoggedIn) → LoginDone e s p content out r → Q r.end
      go r (login-refused x) = q
      go r (login-taken h x c a b g t) = places e s _ 0 q

  send-keeps : (e : Sender) (s : ℕ) (log out : List ℕ) → Q e → Q (send_of e s log out).end
  send-keeps e s log out q = go (send_of e s log out) (send-cases e s log out)
    where
      go : (r : Wrote Sender SendAnswer) → SendDone e s log out r → Q r.end
      go r (send-unknown a) = q
      go r (send-outside a b) = q
      go r (send-drained a b) = q
      go r (send-damaged a b c) = q
      go r (send-small x a b c d) = q
      go r (send-taken x a b c d) = places e s _ 0 q

  packet-keeps : (e : Sender) (s : ℕ) (log out : List ℕ) → Q e → Q (send_packet_of e s log out).end
  unfolding after_packet
  packet-keeps e s log out q = go (send_packet_of e s log out) (packet-cases e s log out)
    where
      go : (r : Wrote Sender PacketSent) → PacketDone e s log out r → Q r.end
      go r (packet-unknown a) = q
      go r (packet-outside a b) = q
      go r (packet-drained a b) = q
      go r (packet-damaged a b c) = q
      go r (packet-missing x a b c d) = q
      go r (packet-small x a b c d f) = q
      go r (packet-taken x a b c d f) =
          by-when Q (last_packet e s x) (λ z. places e s _ 0 q) (λ z. places e s _ _ q)

call-accounts : (e : Sender) (c : ServingCall) → Accounts e → Accounts (served e c)
call-accounts e (opening date ss rs log) a =
    opening-keeps Accounts place-accounts e date ss rs log (λ h. opened-accounts date ss rs) a
call-accounts e (publish s t content log) a =
    publish-keeps Accounts place-accounts e s t content log (λ o h. entry-accounts e s o (16 + length content) a) a
call-accounts e (login s p content out) a = login-keeps Accounts place-accounts e s p content out a
call-accounts e (send s log out) a = send-keeps Accounts place-accounts e s log out a
call-accounts e (send_packet s log out) a = packet-keeps Accounts place-accounts e s log out a

pub all-accounts : (e : Sender) (cs : List ServingCall) → Accounts e → Accounts (served_all e cs)
all-accounts e [] a = a
all-accounts e (c ∷ cs) a = all-accounts (served e c) cs (call-accounts e c a)

call-within : (n : ℕ) (e : Sender) (c : ServingCall) → OneLength n c → Within n e → Within n (served e c)
call-within n e (opening date ss rs log) l w =
    opening-keeps (Within n) (λ e s next piece. place-within e s next piece n) e date ss rs log
    (λ h. opened-within date ss rs n (rw l at h)) w
call-within n e (publish s t content log) l w =
    publish-keeps (Within n) (λ e s next piece. place-within e s next piece n) e s t content log (λ o h. rw l at h) w
call-within n e (login s p content out) l w =
    login-keeps (Within n) (λ e s next piece. place-within e s next piece n) e s p content out w
call-within n e (send s log out) l w =
    send-keeps (Within n) (λ e s next piece. place-within e s next piece n) e s log out w
call-within n e (send_packet s log out) l w =
    packet-keeps (Within n) (λ e s next piece. place-within e s next piece n) e s log out w

pub all-within : (n : ℕ) (e : Sender) (cs : List ServingCall) → AllOneLength n cs → Within n e
    → Within n (served_all e cs)
all-within n e [] l w = w
all-within n e (c ∷ cs) l w = all-within n (served e c) cs l.1 (call-within n e c l.0 w)

-- ─── Row 18 ───

abbrev IsSmall : Published → Type 0
IsSmall (Ok k) = ⊥
IsSmall (Err r) = T (eqb (number_of r) 18)

-- What 18 says: the series is open, the log is not short, and one of the two tests holds.
record Small (e : Sender) (s : ℕ) (content log : List ℕ) : Type 0 where
  open-series : is_served e s ≡ true
  long : log_short e log ≡ false
  why : (not (entry_fits e log content) || over_shares e s log content) ≡ true

module _ (e : Sender) (s t : ℕ) (content log : List ℕ) where
  abbrev Then : Wrote Sender Published → Type 0
  Then r = IsSmall r.answer → Small e s content log

  small-then : Then (publish_of e s t content log)
  unfolding publish_of
  small-then =
      by-when Then (wrong_run content most_content) (λ q h. absurd h) λ q1.
      by-when Then (wrong_width content) (λ q h. absurd h) λ q2.
      by-when Then (wrong_item content) (λ q h. absurd h) λ q3.
      by-when Then (not (composed t Down content)) (λ q h. absurd h) λ q4.
      by-when Then (not (is_served e s)) (λ q h. absurd h) λ q5.
      by-when Then (log_short e log) (λ q h. absurd h) λ q6.
      by-when Then (not (entry_fits e log content) || over_shares e s log content)
      (λ q h. record { open-series = not-false _ q5; long = q6; why = q }) λ q7.
      by-when Then (leb most_messages (published_of e s)) (λ q h. absurd h) λ q8 h. absurd h

  small-told : (publish_of e s t content log).answer ≡ Err TooSmall → Small e s content log
  small-told q = small-then (rw q tt)

  not-fits : log_short e log ≡ false → not (entry_fits e log content) ≡ true
      → length log < e.day.used + (16 + length content)
  unfolding log_short entry_fits
  not-fits l q =
      let a = ltb-false (length log) e.day.used l in
      let b =
      ltb-true (length log - e.day.used) (16 + length content)
      (not-false _ (not-true _ q)) in
      omega arith

  or-one : (a b : Bool) → (a || b) ≡ true → (a ≡ true) ⊎ (b ≡ true)
  or-one true b q = inl refl
  or-one false b q = inr q

  -- In accounts that are right, both tests come to the second one.
  small-shares : Accounts e → Small e s content log
      → length log < shares_of (with_entry e s (16 + length content))
  small-shares a h =
      go (or-one (not (entry_fits e log content)) (over_shares e s log content) h.why)
    where
      go : (not (entry_fits e log content) ≡ true) ⊎ (over_shares e s log content ≡ true)
          → length log < shares_of (with_entry e s (16 + length content))
      go (inl q) =
          let b = not-fits h.long q in
          let k = entry-accounts e s h.open-series (16 + length content) a in
          let m = accounts-least (with_entry e s (16 + length content)) k in
          let d = used-day e s h.open-series (16 + length content) in
          omega arith
      go (inr q) = ltb-true (length log) (shares_of (with_entry e s (16 + length content))) q

  -- Where no row before it refuses, the second test decides.
  shares-small : refused_before e s t content log ≡ false
      → length log < shares_of (with_entry e s (16 + length content))
      → (publish_of e s t content log).answer ≡ Err TooSmall
  unfolding publish_of
  shares-small r h =
      let a6 =
      or-neither
      (wrong_run content most_content || wrong_width content || wrong_item content || not (composed t Down content) || not
      (is_served e s)) (log_short e log) r in
      let a5 =
      or-neither
      (wrong_run content most_content || wrong_width content || wrong_item content || not (composed t Down content))
      (not (is_served e s)) a6.0 in
      let a4 =
      or-neither (wrong_run content most_content || wrong_width content || wrong_item content)
      (not (composed t Down content)) a5.0 in
      let a3 = or-neither (wrong_run content most_content || wrong_width content) (wrong_item content) a4.0 in
      let a2 = or-neither (wrong_run content most_content) (wrong_width content) a3.0 in
      let over : over_shares e s log content ≡ true =
      lt-ltb (length log) (shares_of (with_entry e s (16 + length content))) h in
      let both : (not (entry_fits e log content) || over_shares e s log content) ≡ true =
      rw over (or-true (not (entry_fits e log content))) in
      rw (a2.0, a2.1, a3.1, a4.1, a5.1, a6.1, both)
    where
      or-true : (b : Bool) → (b || true) ≡ true
      or-true true = refl
      or-true false = refl

-- ─── The promise ───

promise : (e : Sender) (date : ℕ) (ss rs log : List ℕ) → (open_day_of e date ss rs log).answer ≡ (Ok tt)
    → (cs : List ServingCall) → AllOneLength (length log) cs →
    let f = served_all (open_day_of e date ss rs log).end cs in
    (s t : ℕ) (content l : List ℕ) → length l ≡ length log
    → used_of f s + (16 + length content) ≤ reserve_of f s
    → (publish_of f s t content l).answer ≡ Err TooSmall → ⊥
promise e date ss rs log done cs one s t content l same fits told =
    let g = (open_day_of e date ss rs log).end in
    let start = begins (open_day_of e date ss rs log) (open-cases e date ss rs log) done in
    let f = served_all g cs in
    let a = all-accounts g cs start.0 in
    let w = all-within (length log) g cs one start.1 in
    let h = small-told f s t content l told in
    let k = small-shares f s t content l a h in
    let m = shares-same f s h.open-series (16 + length content) fits in
    omega arith
  where
    begins : (r : Left Sender Opened) → OpenDone e date ss rs log r → r.answer ≡ (Ok tt)
        → Accounts r.end × Within (length log) r.end
    begins r (open-refused x) q = absurd (let z : ◌≡◌ {A = ℕ} 0 1 = cc in omega arith)
    begins r (open-taken a b c d) q = (opened-accounts date ss rs, opened-within date ss rs (length log) c)

-- ─── Reserves and bytes used, call by call ───

-- The reserve of a series is that of end e; its bytes used are n.
abbrev Reserve-of : ℕ → Sender → Sender → Type 0
Reserve-of s e f = reserve_of f s ≡ reserve_of e s

abbrev Used-of : ℕ → ℕ → Sender → Type 0
Used-of s n f = used_of f s ≡ n

kept-reserve : (e : Sender) (c : ServingCall) (s : ℕ) → is_opening c ≡ false → reserve_of (served e c) s ≡ reserve_of e s
kept-reserve e c s h = go c h
  where
    stays : (f : Sender) (t next piece : ℕ) → Reserve-of s e f → Reserve-of s e (with_place f t next piece)
    stays f t next piece q = reserve-place f t next piece s ∙ q

    go : (c : ServingCall) → is_opening c ≡ false → Reserve-of s e (served e c)
    go (opening date ss rs log) h = absurd (let z : ◌≡◌ {A = ℕ} 0 1 = cc in omega arith)
    go (publish t tid content log) h =
        publish-keeps (Reserve-of s e) stays e t tid content log (λ o k. reserve-entry e t o (16 + length content) s) refl
    go (login t p content out) h = login-keeps (Reserve-of s e) stays e t p content out refl
    go (send t log out) h = send-keeps (Reserve-of s e) stays e t log out refl
    go (send_packet t log out) h = packet-keeps (Reserve-of s e) stays e t log out refl

call-used : (e : Sender) (c : ServingCall) (s n : ℕ) → used_of e s ≡ n → used_of (served e c) s ≡ counted e s c n
call-used e c s n q = go c
  where
    stays : (f : Sender) (t next piece : ℕ) → Used-of s n f → Used-of s n (with_place f t next piece)
    stays f t next piece q = used-place f t next piece s ∙ q

    opens : (date : ℕ) (ss rs log : List ℕ) (r : Left Sender Opened) → OpenDone e date ss rs log r
        → used_of r.end s ≡ from_opening r.answer n
    opens date ss rs log r (open-refused x) = q
    opens date ss rs log r (open-taken a b c d) = opened-used date ss rs s

    entry : (t tid : ℕ) (content log : List ℕ) (r : Wrote Sender Published) → PublishDone e t tid content log r
        → used_of r.end s ≡ cond (eqb t s) (with_published r.answer (16 + length content) n) n
    entry t tid content log r (publish-refused x) = q ∙ sym (either_way (eqb t s) n)
    entry t tid content log r (publish-taken p) =
        used-entry e t p.served (16 + length content) s
        ∙ ap (λ (m : ℕ). cond (eqb t s) (m + (16 + length content)) m) q

    go : (c : ServingCall) → used_of (served e c) s ≡ counted e s c n
    go (opening date ss rs log) = opens date ss rs log (open_day_of e date ss rs log) (open-cases e date ss rs log)
    go (publish t tid content log) =
        entry t tid content log (publish_of e t tid content log) (publish-cases e t tid content log)
    go (login t p content out) = login-keeps (Used-of s n) stays e t p content out q
    go (send t log out) = send-keeps (Used-of s n) stays e t log out q
    go (send_packet t log out) = packet-keeps (Used-of s n) stays e t log out q

all-used : (e : Sender) (cs : List ServingCall) (s n : ℕ) → used_of e s ≡ n → used_of (served_all e cs) s
    ≡ counted_all e s cs n
all-used e [] s n q = q
all-used e (c ∷ cs) s n q = all-used (served e c) cs s (counted e s c n) (call-used e c s n q)

-- ─── All of it ───

example : T (all_same example_rows)
unfolding opened
example = tt

pub shares : Shares
shares =
    record {
      refused-11 = refused-11;
      unchanged = unchanged;
      taken = taken;
      given = given;
      kept = kept-reserve;
      used-since = λ cs s. all-used fresh_sender cs s 0 (fresh-used s);
      used = λ cs.
          let a = all-accounts fresh_sender cs fresh-accounts in
          (a.sum, accounts-least (served_all fresh_sender cs) a);
      exactly = λ cs s t content log r.
          let e = served_all fresh_sender cs in (
            λ q. small-shares e s t content log (all-accounts fresh_sender cs fresh-accounts)
                (small-told e s t content log q),
            shares-small e s t content log r,
          );
      unreserved = λ cs s size o z.
          let e = served_all fresh_sender cs in
          shares-used e s o size z ∙ ap (λ (n : ℕ). n + size) (sym (all-accounts fresh_sender cs fresh-accounts).sum);
      promise = promise;
      example = example;
    }
