-- "One seat's logins, sends and lost lines change no answer or byte that another seat gets" (02, No. 3): calls of the
-- box in any order and of any bytes, what each shows to its caller, and the same calls without those of other seats. A
-- lost line is a call that isn't made: the box has none for it.
use Rattle.std.specs.Prelude.{ℕ, ◌≡◌, List, [], ◌∷◌, Bool, false, cond, not, eqb}
use Rattle.flow.specs.Answers.{Said, idle, written, opened_said, requested_said, confirmed_said, received_said, login_said}
use Rattle.flow.specs.Answers.{sent_said, sent_packet_said}
use Rattle.relay.specs.State.{Box}
use Rattle.relay.specs.Box.{seat_of, open_box_of, connect_box_of, ask_of, answer_of, receive_box_of, login_seat_of, send_seat_of}
use Rattle.relay.specs.Box.{send_packet_seat_of}

pub data BoxCall : Type 0 where
  opening : List ℕ → List ℕ → BoxCall
  connect : BoxCall
  ask : ℕ → List ℕ → List ℕ → BoxCall
  answer : ℕ → List ℕ → BoxCall
  receive : List ℕ → BoxCall
  login : ℕ → ℕ → List ℕ → List ℕ → List ℕ → BoxCall  -- the seat first
  send : ℕ → ℕ → List ℕ → BoxCall
  send_packet : ℕ → ℕ → List ℕ → BoxCall

-- The box with its log and its chain buffer, as the last call left them.
pub record Standing : Type 0 where
  pub box : Box
  pub log : List ℕ
  pub buffer : List ℕ

abbrev pub standing : Box → List ℕ → List ℕ → Standing
standing b log buffer = record { box = b; log = log; buffer = buffer }

-- What a caller gets: the answer, and the bytes written to the start of its output.
pub record Shown : Type 0 where
  pub said : Said
  pub bytes : List (List ℕ)

abbrev pub shown : Said → List ℕ → Shown
shown a out = record { said = a; bytes = written out a }

abbrev pub after : Standing → BoxCall → Standing
after x (opening ss rs) = standing (open_box_of x.box ss rs).end x.log x.buffer
after x connect = standing (connect_box_of x.box) x.log x.buffer
after x (ask s content out) = standing (ask_of x.box s content out).end x.log x.buffer
after x (answer s p) = standing (answer_of x.box s p x.log).end x.log x.buffer
after x (receive p) = let r = receive_box_of x.box p x.log x.buffer in standing r.end r.log r.buffer
after x (login i s p content out) = standing (login_seat_of x.box i s p content out).end x.log x.buffer
after x (send i s out) = standing (send_seat_of x.box i s x.log out).end x.log x.buffer
after x (send_packet i s out) = standing (send_packet_seat_of x.box i s x.log out).end x.log x.buffer

-- Connect's answer is that it is done.
abbrev pub shows : Standing → BoxCall → Shown
shows x (opening ss rs) = shown (opened_said (open_box_of x.box ss rs).answer) []
shows x connect = shown idle []
shows x (ask s content out) = let r = ask_of x.box s content out in shown (requested_said r.answer) r.bytes
shows x (answer s p) = shown (confirmed_said (answer_of x.box s p x.log).answer) []
shows x (receive p) =
    let r = receive_box_of x.box p x.log x.buffer in shown (received_said p r.buffer r.answer) []
shows x (login i s p content out) =
    let r = login_seat_of x.box i s p content out in shown (login_said r.answer) r.bytes
shows x (send i s out) = let r = send_seat_of x.box i s x.log out in shown (sent_said r.answer) r.bytes
shows x (send_packet i s out) =
    let r = send_packet_seat_of x.box i s x.log out in shown (sent_packet_said r.answer) r.bytes

-- A call of another seat than i.
abbrev pub elsewhere : ℕ → BoxCall → Bool
elsewhere i (opening ss rs) = false
elsewhere i connect = false
elsewhere i (ask s content out) = false
elsewhere i (answer s p) = false
elsewhere i (receive p) = false
elsewhere i (login j s p content out) = not (eqb j i)
elsewhere i (send j s out) = not (eqb j i)
elsewhere i (send_packet j s out) = not (eqb j i)

-- The list without other seats' calls; the box behind a list; what the calls of it show, other seats' aside.
abbrev pub without : ℕ → List BoxCall → List BoxCall
without i [] = []
without i (c ∷ cs) = cond (elsewhere i c) (without i cs) (c ∷ without i cs)

abbrev pub after_all : Standing → List BoxCall → Standing
after_all x [] = x
after_all x (c ∷ cs) = after_all (after x c) cs

abbrev pub shows_all : ℕ → Standing → List BoxCall → List Shown
shows_all i x [] = []
shows_all i x (c ∷ cs) = cond (elsewhere i c) (shows_all i (after x c) cs) (shows x c ∷ shows_all i (after x c) cs)

-- The same but for other seats.
pub record SameFor (i : ℕ) (x y : Standing) : Type 0 where
  pub receiver : x.box.receiver ≡ y.box.receiver
  pub reserves : x.box.reserves ≡ y.box.reserves
  pub day : x.box.day ≡ y.box.day
  pub seat : seat_of x.box i ≡ seat_of y.box i
  pub log : x.log ≡ y.log
  pub buffer : x.buffer ≡ y.buffer

-- From any state.
pub record Independence : Type 0 where
  pub shown : (i : ℕ) (x : Standing) (cs : List BoxCall) → shows_all i x cs ≡ shows_all i x (without i cs)
  pub after : (i : ℕ) (x : Standing) (cs : List BoxCall) → SameFor i (after_all x cs) (after_all x (without i cs))
