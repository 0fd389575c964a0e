-- `RefusalsLeave`: where a writer wrote nothing, the output is as it was; one law over all verdicts. Assumes nothing.
use Prim.Native.Nat.{ℕ}
use native.Mathlib.Omega.{arith}
use mathlib.Core.Path.{◌≡◌, refl}
use mathlib.Core.List.{List, [], ◌++◌}
use mathlib.Core.Bool.{Bool, true, false, cond}
use lib.ListN.{length, get_or, drop}
use lib.Dec.{ltb}
use Rattle.ftd.specs.Write.{Verdict, fine, refuse, other, written_answer, written_output}
use Rattle.ftd.specs.Chain.{packets_of, packet_answer, packet_output, output_left}
use Rattle.ftd.specs.Refusals.{is_written, is_packet_written, Leaves, RefusalsLeave}
use Rattle.ftd.specs.declared.refusal.Refusal.TheVariants.{TooSmall}
use Rattle.ftd.specs.declared.chain.Message.{Message}
use Rattle.std.specs.Prelude.{Some, None, Ok, Err}
use Rattle.ftd.specs.Types.{PacketAnswer}
use Rattle.ftd.specs.declared.write.WriteError.TheVariants.{Refused}

not-true : {A : Type 0} → true ≡ false → A
not-true q = let z : ◌≡◌ {A = ℕ} 0 1 = cc in absurd (omega arith)

leaves : (v : Verdict) (bytes : List ℕ) → Leaves v bytes
unfolding written_answer written_output
leaves fine bytes out q = go (ltb (length out) (length bytes)) q
  where
    go : (b : Bool) → is_written (cond b (Err (Refused TooSmall)) (Ok (length bytes))) ≡ false
        → cond b out (bytes ++ drop (length bytes) out) ≡ out
    go true q = refl
    go false q = not-true q
leaves (refuse r) bytes out q = refl
leaves (other w) bytes out q = refl

leaves-packet : (m : Message) (content : List ℕ) (i : ℕ) (out : List ℕ)
    → is_packet_written (packet_answer m content i out) ≡ false → packet_output m content i out ≡ out
unfolding packet_output
leaves-packet m content i out = go (packet_answer m content i out)
  where
    go : (a : PacketAnswer) → is_packet_written a ≡ false → output_left a (get_or (packets_of m content) i []) out ≡ out
    go (Ok (Some found)) q = not-true q
    go (Ok None) q = refl
    go (Err r) q = refl

pub refusals-leave : RefusalsLeave
refusals-leave =
    record {
      plain = λ kind extension body. leaves _ _;
      message = λ h extension content. leaves _ _;
      chain = λ m content. leaves _ _;
      packet = leaves-packet;
      login = λ date content ending. leaves _ _;
      resume = λ series number. leaves _ _;
      field = λ fid bytes. leaves _ _;
      item = λ fid i value text. leaves _ _;
      char = λ kind b. leaves _ _;
      word = λ x. leaves _ _;
      int = λ x. leaves _ _;
      text = λ width value. leaves _ _;
      number = λ width negative units. leaves _ _;
      float = λ scale width negative units. leaves _ _;
      date = λ v. leaves _ _;
    }
