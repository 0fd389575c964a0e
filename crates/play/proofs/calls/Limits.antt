-- A line's call keeps to its limits. Assumes nothing.
use Prim.Native.Nat.{ℕ, ◌+◌, ◌-◌, ◌*◌, ◌≤◌}
use mathlib.Core.Path.{◌≡◌, refl}
use mathlib.Core.List.{List}
use mathlib.Core.Bool.{Bool, true, false, cond}
use native.Mathlib.Omega.{arith}
use borrow.Author.Tests.{ltb-false}
use lib.ListN.{take}
use lib.Dec.{ltb}
use Rattle.play.specs.declared.calls.Verb.{Verb}
use Rattle.play.specs.declared.calls.Verb.TheVariants.{Unknown}
use Rattle.play.specs.declared.calls.Verb.TheVariants.{Buffers as NamesBuffers, OpenDay as NamesOpenDay}
use Rattle.play.specs.declared.calls.Verb.TheVariants.{Publish as NamesPublish, Login as NamesLogin}
use Rattle.play.specs.declared.calls.Verb.TheVariants.{Send as NamesSend, OpenEnd as NamesOpenEnd}
use Rattle.play.specs.declared.calls.Verb.TheVariants.{Connect as NamesConnect, Ask as NamesAsk}
use Rattle.play.specs.declared.calls.Verb.TheVariants.{Answer as NamesAnswer, Receive as NamesReceive}
use Rattle.play.specs.declared.calls.Verb.TheVariants.{State as NamesState, Calendar as NamesCalendar}
use Rattle.play.specs.declared.calls.Verb.TheVariants.{Mark as NamesMark, Book as NamesBook, Take as NamesTake}
use Rattle.play.specs.declared.calls.Verb.TheVariants.{Level as NamesLevel, Mean as NamesMean, ReceiveAll as NamesReceiveAll}
use Rattle.play.specs.declared.calls.Verb.TheVariants.{PublishAll as NamesPublishAll, SendPacket as NamesSendPacket}
use Rattle.play.specs.declared.calls.Verb.TheVariants.{Keep as NamesKeep, Return as NamesReturn}
use Rattle.play.specs.declared.calls.Call.{Call}
use Rattle.play.specs.declared.calls.Call.TheVariants.{Bad, OpenDay, Login, Send, OpenEnd, Connect}
use Rattle.play.specs.declared.calls.Call.TheVariants.{Ask, Receive, State, SetCalendar, StartBook, ShowLevel, ShowMean}
use Rattle.play.specs.declared.calls.Call.TheVariants.{ReceiveAll, PublishAll, Keep, Return}
use Rattle.play.specs.Words.{end_of}
use Rattle.play.specs.Calls.{verb_of, buffers_with, open_day_with, publish_with, login_call_with, send_with, open_end_with}
use Rattle.play.specs.Calls.{ask_with, answer_with, time_with, calendar_with, mark_with, plain_call, named_call, call_of}
use Rattle.play.specs.Calls.{take_with, level_with, Limited}

-- What a test lets through keeps to its limit, and a line that is no call keeps to all.
either : (b : Bool) (x : Call) → (b ≡ true → Limited x) → Limited (cond b x Bad)
either true x f = f refl
either false x f = tt

unless : (n most : ℕ) (x : Call) → (n ≤ most → Limited x) → Limited (cond (ltb most n) Bad x)
unless n most x f = go (ltb most n) (λ e. f (ltb-false most n e))
  where
    go : (b : Bool) → (b ≡ false → Limited x) → Limited (cond b Bad x)
    go true g = tt
    go false g = g refl

buffers-limited : (b : Bool) (x y : ℕ) → Limited (buffers_with b x y)
unfolding buffers_with
buffers-limited b x y = either b _ (λ _. unless x 1048576 _ (λ _. unless y 262144 _ (λ _. tt)))

day-limited : (x n : ℕ) → Limited (open_day_with x n)
unfolding open_day_with
day-limited x n = unless x 4294967295 _ (λ _. unless n 64 _ (λ h. h))

publish-limited : (b : Bool) (x y : ℕ) → Limited (publish_with b x y)
unfolding publish_with
publish-limited b x y = either b _ (λ _. unless x 65535 _ (λ _. unless y 4294967295 _ (λ _. tt)))

login-limited : (b : Bool) (x y : ℕ) → Limited (login_call_with b x y)
unfolding login_call_with
login-limited b x y = either b _ (λ _. unless x 65535 _ (λ _. unless y 65536 _ (λ h. h)))

send-limited : (b : Bool) (x y : ℕ) (single : Bool) → Limited (send_with b x y single)
unfolding send_with
send-limited b x y single = either b _ (λ _. unless x 65535 _ (λ _. unless y 65536 _ (λ h. h)))

end-limited : (n : ℕ) → Limited (open_end_with n)
unfolding open_end_with
end-limited n = unless n 64 _ (λ h. h)

ask-limited : (b : Bool) (x y : ℕ) → Limited (ask_with b x y)
unfolding ask_with
ask-limited b x y = either b _ (λ _. unless x 65535 _ (λ _. unless y 65536 _ (λ h. h)))

answer-limited : (b : Bool) (x : ℕ) → Limited (answer_with b x)
unfolding answer_with
answer-limited b x = either b _ (λ _. unless x 65535 _ (λ _. tt))

time-limited : (b : Bool) (x : ℕ) (c : Call) → Limited c → Limited (time_with b x c)
unfolding time_with
time-limited true x c h = unless x 4294967295 _ (λ _. tt)
time-limited false x c h = h

calendar-limited : (x n : ℕ) → Limited (calendar_with x n)
unfolding calendar_with
calendar-limited x n =
    unless x 16 _ (λ g. unless n 112 _ (λ _. unless (3 * x) n _ (λ _. unless (n - 3 * x) 64 _ (λ h. (g, h)))))

mark-limited : (b : Bool) (x : ℕ) → Limited (mark_with b x)
unfolding mark_with
mark-limited b x = either b _ (λ _. unless x 4294967295 _ (λ _. tt))

take-limited : (b : Bool) (x : ℕ) → Limited (take_with b x)
unfolding take_with
take-limited b x = either b _ (λ _. unless x 4294967295 _ (λ _. tt))

level-limited : (b buying selling : Bool) (x : ℕ) → Limited (level_with b buying selling x)
unfolding level_with
level-limited b buying selling x = either b _ (λ _. unless x 4294967295 _ (λ _. go buying))
  where
    go : (buying : Bool) → Limited (cond buying (ShowLevel true x) (cond selling (ShowLevel false x) Bad))
    go true = tt
    go false = either selling _ (λ _. tt)

plain-limited : (b : Bool) (c : Call) → Limited c → Limited (plain_call b c)
unfolding plain_call
plain-limited b c h = either b c (λ _. h)

named-limited : (line : List ℕ) (v : Verb) → Limited (named_call line v)
named-limited line Unknown = tt
named-limited line NamesBuffers = buffers-limited _ _ _
named-limited line NamesOpenDay = day-limited _ _
named-limited line NamesPublish = publish-limited _ _ _
named-limited line NamesLogin = login-limited _ _ _
named-limited line NamesSend = send-limited _ _ _ false
named-limited line NamesOpenEnd = end-limited _
named-limited line NamesConnect = plain-limited _ Connect tt
named-limited line NamesAsk = time-limited _ _ _ (ask-limited _ _ _)
named-limited line NamesAnswer = answer-limited _ _
named-limited line NamesReceive = plain-limited _ Receive tt
named-limited line NamesState = plain-limited _ State tt
named-limited line NamesCalendar = calendar-limited _ _
named-limited line NamesMark = mark-limited _ _
named-limited line NamesBook = plain-limited _ StartBook tt
named-limited line NamesTake = take-limited _ _
named-limited line NamesLevel = level-limited _ _ _ _
named-limited line NamesMean = plain-limited _ ShowMean tt
named-limited line NamesReceiveAll = plain-limited _ ReceiveAll tt
named-limited line NamesPublishAll = plain-limited _ PublishAll tt
named-limited line NamesSendPacket = send-limited _ _ _ true
named-limited line NamesKeep = plain-limited _ Keep tt
named-limited line NamesReturn = plain-limited _ Return tt

pub limited : (line : List ℕ) (c : Call) → c ≡ call_of line → Limited c
unfolding call_of
limited line c q = rw q (named-limited line (verb_of (take (end_of line 0) line)))

-- ─── Of each call ───

-- Within its limit an output fits its buffer, and its digits fit the text.
pub room-text : (n m : ℕ) → n ≤ 65536 → 131136 ≤ m → 64 + 2 * n ≤ m
room-text n m h g = omega arith

pub room_out : (n m : ℕ) → n ≤ 65536 → 65536 ≤ m → n ≤ m
room_out n m h g = omega arith

module _ (c : Call) (h : Limited c) where
  pub day-limit : (d n : ℕ) → c ≡ OpenDay d n → n ≤ 64
  day-limit d n e = rw e at h

  pub end-limit : (n : ℕ) → c ≡ OpenEnd n → n ≤ 64
  end-limit n e = rw e at h

  pub login-limit : (s n : ℕ) → c ≡ Login s n → n ≤ 65536
  login-limit s n e = rw e at h

  pub send-limit : (s n : ℕ) (single : Bool) → c ≡ Send s n single → n ≤ 65536
  send-limit s n single e = rw e at h

  pub ask-limit : (s n : ℕ) → c ≡ Ask s n → n ≤ 65536
  ask-limit s n e = rw e at h

  pub times-limit : (n k : ℕ) → c ≡ SetCalendar n k → n ≤ 16
  times-limit n k e = let g : (n ≤ 16) × (k ≤ 64) = rw e at h in g.0

  pub dates-limit : (n k : ℕ) → c ≡ SetCalendar n k → k ≤ 64
  dates-limit n k e = let g : (n ≤ 16) × (k ≤ 64) = rw e at h in g.1
