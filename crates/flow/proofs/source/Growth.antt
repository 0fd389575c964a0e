-- Histories of the serving side only grow. Assumes nothing.
use mathlib.Core.List.{List}
use Rattle.flow.specs.World.{Event, ended_in, SenderSide, World, run}
use Rattle.flow.proofs.common.Extends.{Extends, extends-same, extends-append, extends-along}
use Rattle.flow.proofs.source.Moves.{Move, stays, opens, publishes, logs-in, sends, sends-packet, run-keeps}
use Rattle.flow.proofs.common.Transmissions.{Onward, onward-same, onward-all, onward-ended, onward-append}
use Rattle.flow.proofs.common.Transmissions.{onward-packet}

-- ─── Histories only grow ───

pub record Grown (v u : SenderSide) : Type 0 where
  pub published : Extends v.published u.published
  pub answers : Extends v.answers u.answers
  pub messages : Extends v.messages u.messages

pub grown-same : (v : SenderSide) → Grown v v
grown-same v =
    record {
      published = extends-same v.published;
      answers = extends-same v.answers;
      messages = extends-same
          v.messages;
    }

pub grown-along : (v u t : SenderSide) → Grown v u → Grown u t → Grown v t
grown-along v u t g h = record {
  published = extends-along v.published u.published t.published g.published h.published;
  answers = extends-along v.answers u.answers t.answers g.answers h.answers;
  messages = extends-along v.messages u.messages t.messages g.messages h.messages;
}

pub move-grows : (v u : SenderSide) → Move v u → Grown v u
move-grows v u stays = grown-same v
move-grows v u (opens date ss rs a b) =
    record {
      published = extends-same v.published;
      answers = extends-same v.answers;
      messages = extends-same
          v.messages;
    }
move-grows v u (publishes s tid content t) =
    record {
      published = extends-append v.published _;
      answers = extends-same v.answers;
      messages = extends-same
          v.messages;
    }
move-grows v u (logs-in s p content out h x c g t) =
    record {
      published = extends-same v.published;
      answers = extends-append v.answers _;
      messages = extends-same
          v.messages;
    }
move-grows v u (sends s x a b c) =
    record {
      published = extends-same v.published;
      answers = extends-same v.answers;
      messages = extends-append
          v.messages _;
    }
move-grows v u (sends-packet s x a b c d) =
    record {
      published = extends-same v.published;
      answers = extends-same v.answers;
      messages = extends-append
          v.messages _;
    }

-- Each transmission stays in its place and only grows.
pub move-onward : (v u : SenderSide) → Move v u → Onward v.transmissions u.transmissions
move-onward v u stays = onward-same v.transmissions
move-onward v u (opens date ss rs a b) = onward-all v.transmissions
move-onward v u (publishes s tid content t) = onward-same v.transmissions
move-onward v u (logs-in s p content out h x c g t) = onward-ended s v.transmissions
move-onward v u (sends s x a b c) =
    onward-append v.transmissions (ended_in s v.transmissions) _ (onward-ended s v.transmissions)
move-onward v u (sends-packet s x a b c d) = onward-packet s _ _ v.transmissions

pub run-grows : (w : World) (es : List Event) → Grown w.serving (run w es).serving
run-grows w es =
    run-keeps (Grown w.serving) (λ v u m g. grown-along w.serving v u g (move-grows v u m)) w es
    (grown-same w.serving)
