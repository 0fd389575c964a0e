-- Each answer on the line is a login answer of a day up to the present one, with content that passed rows 7 to 10.
-- Assumes nothing.
use Prim.Native.Nat.{ℕ}
use mathlib.Core.Path.{◌≡◌, ap, ◌∙◌}
use mathlib.Core.List.{List}
use mathlib.Core.Bool.{true, false, not, ◌||◌}
use mathlib.Core.Option.{some}
use borrow.Author.Tests.{not-false}
use lib.ListN.{get_elem?}
use lib.Dec.{ltb}
use Rattle.ftd.specs.Resume.{resume_fid}
use Rattle.ftd.specs.Login.{login_tid, login_bytes}
use Rattle.ftd.specs.Bytes.{part}
use Rattle.ftd.specs.Packet.{dated_of}
use Rattle.ftd.specs.Fields.{shaped, count_of, packet_content}
use Rattle.ftd.specs.Items.{wrong_width, wrong_item}
use Rattle.ftd.specs.Composition.{composed}
use Rattle.ftd.specs.declared.composition.Direction.TheVariants.{Up, Down}
use Rattle.ftd.specs.declared.packet.Header.{Header}
use Rattle.ftd.specs.Types.{TradeDate}
use Rattle.flow.specs.Ends.{up_to}
use Rattle.flow.specs.Serving.{no_login}
use Rattle.flow.specs.World.{InSeries, in_series, SenderSide}
use Rattle.flow.proofs.common.Bools.{or-neither}
use Rattle.flow.proofs.common.Days.{up_to-self}
use Rattle.flow.proofs.common.Extends.{place-last}
use Rattle.flow.proofs.calls.Serving.{LoginTests}
use Rattle.flow.proofs.source.Moves.{Move, stays, opens, publishes, logs-in, sends, sends-packet}
use Rattle.flow.proofs.source.Served.{ServedSide}
use Rattle.flow.proofs.source.Kept.{move-rises}
use Rattle.flow.proofs.source.Entries.{served-day}
use Rattle.std.specs.Prelude.{Some}

pub record GenuineAnswer (day : TradeDate) (a : InSeries (List ℕ)) : Type 0 where
  pub date : ℕ
  pub content : List ℕ
  pub bytes : a.what ≡ login_bytes (Some date) content
  pub shape : shaped content packet_content ≡ true
  pub widths : wrong_width content ≡ false
  pub items : wrong_item content ≡ false
  pub counts : composed login_tid Down content ≡ true
  pub not-later : up_to date day ≡ true

abbrev pub GenuineAnswers : SenderSide → Type 0
GenuineAnswers v = (i : ℕ) (a : InSeries (List ℕ)) → get_elem? v.answers i ≡ some a → GenuineAnswer v.day a

answer-genuine : (v : SenderSide) → ServedSide v → (s : ℕ) (h : Header) (date : TradeDate) (asked content out : List ℕ)
    → LoginTests v.end s h date asked content out →
    GenuineAnswer v.day (in_series s (login_bytes v.end.day.date content))
answer-genuine v z s h date asked content out t =
    let d = served-day v.end v.log v.day v.published z s t.served in
    record {
      date = d.0;
      content = content;
      bytes = ap (λ (x : TradeDate). login_bytes x content) (z.same-day ∙ d.1);
      shape = t.run;
      widths = (or-neither (wrong_width asked) (wrong_width content) t.widths).1;
      items = (or-neither (wrong_item asked) (wrong_item content) t.items).1;
      counts =
          not-false _
          (or-neither (no_login h || not (composed login_tid Up asked) || ltb 1 (count_of resume_fid asked))
          (not (composed login_tid Down content)) t.counts).1;
      not-later = ap (up_to d.0) d.1 ∙ up_to-self d.0;
    }

pub move-answers : (v u : SenderSide) → Move v u → ServedSide v → GenuineAnswers v → GenuineAnswers u
move-answers v u stays h g = g
move-answers v u (opens date ss rs a b) h g = λ i x q.
    let y = g i x q in
    record {
      date = y.date;
      content = y.content;
      bytes = y.bytes;
      shape = y.shape;
      widths = y.widths;
      items = y.items;
      counts = y.counts;
      not-later = move-rises v _ (opens date ss rs a b) h y.date y.not-later;
    }
move-answers v u (publishes s tid content t) h g = g
move-answers v u (logs-in s p content out x y c e t) h g =
    place-last (GenuineAnswer v.day) v.answers _ g
    (answer-genuine v h s x (dated_of p).date (part p c.start c.len) content out t)
move-answers v u (sends s x a b c) h g = g
move-answers v u (sends-packet s x a b c d) h g = g
