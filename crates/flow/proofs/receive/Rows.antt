-- Receive, row by row, over the one series that a packet names: the next piece by its chain letter, and the tests
-- before it; over plain variables. Assumes nothing.
use Prim.Native.Nat.{ℕ}
use mathlib.Core.Path.{◌≡◌, sym, ap, ◌∙◌}
use mathlib.Core.Bool.{Bool, true, false}
use Rattle.ftd.specs.declared.refusal.Refusal.TheVariants.{BrokenChain}
use Rattle.ftd.specs.Types.{PacketPlace}
use Rattle.ftd.specs.declared.packet.Span.{Span}
use Rattle.ftd.specs.declared.packet.Header.{Header}
use Rattle.ftd.specs.declared.packet.Chain.{Chain}
use Rattle.ftd.specs.declared.packet.Chain.TheVariants.{Single, First, Middle, Last}
use Rattle.flow.specs.declared.receive.OneStep.{OneStep}
use Rattle.flow.specs.declared.receiver.KeptSeries.{KeptSeries}
use Rattle.flow.specs.declared.receiver.LiveSeries.{LiveSeries}
use Rattle.flow.specs.declared.receiver.Origin.TheVariants.{Packet}
use Rattle.flow.specs.declared.receiver.Received.TheVariants.{Refused as NotTaken}
use Rattle.flow.specs.Ends.{◌when◌else◌}
use Rattle.flow.specs.ReceiveHelpers.{wrong_piece, one_dropping, one_completing, one_holds, one_piece}
use Rattle.flow.specs.ReceiveHelpers.{one_taken}
use Rattle.std.specs.Prelude.{None}

-- The row's test holds, or it does not and the row goes on.
stops : {A : Type 0} (test : Bool) (w x y : A) → test ≡ true → w ≡ x → w ≡ (x when test else y)
stops test w x y p q = rw p q

goes_on : {A : Type 0} (test : Bool) (w x y : A) → test ≡ false → w ≡ y → w ≡ (x when test else y)
goes_on test w x y p q = rw p q

module _ (kept : KeptSeries) (live : LiveSeries) (i count : ℕ) (h : Header) (place : PacketPlace) (at : Span)
    (size : ℕ) where
  -- ─── By the chain letter ───

  module _ (b : Bool) (q : b ≡ wrong_piece live h place h.chain) where
    -- 17.
    pub piece-wrong : b ≡ true → (r : OneStep) → r ≡ one_dropping kept (NotTaken BrokenChain)
        → r ≡ one_piece kept live i count h place at size h.chain
    piece-wrong x r y = stops _ _ _ _ (sym q ∙ x) y

    module _ (x : b ≡ false) where
      taken : (c : Chain) → h.chain ≡ c → (r : OneStep) → r ≡ one_taken kept live i count h at size c
          → r ≡ one_piece kept live i count h place at size h.chain
      taken c p r y =
          goes_on _ _ _ _ (sym q ∙ x) (y ∙ ap (λ (k : Chain). one_taken kept live i count h at size k) (sym p))

      pub piece-single : h.chain ≡ Single → (r : OneStep) → r ≡ one_completing kept h Packet at None
          → r ≡ one_piece kept live i count h place at size h.chain
      piece-single c r y = taken Single c r y

      pub piece-first : h.chain ≡ First → (r : OneStep) → r ≡ one_holds kept i count h 0 0 false at.len size
          → r ≡ one_piece kept live i count h place at size h.chain
      piece-first c r y = taken First c r y

      pub piece-middle : h.chain ≡ Middle → (r : OneStep)
          → r ≡ one_holds kept i count h live.held live.pieces false at.len size
          → r ≡ one_piece kept live i count h place at size h.chain
      piece-middle c r y = taken Middle c r y

      pub piece-last : h.chain ≡ Last → (r : OneStep)
          → r ≡ one_holds kept i count h live.held live.pieces true at.len size
          → r ≡ one_piece kept live i count h place at size h.chain
      piece-last c r y = taken Last c r y
