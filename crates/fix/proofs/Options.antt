-- Two fields that are there, and two frames: equal, they have the same parts.
use Rattle.std.specs.Prelude.{ℕ, ◌≡◌}
use mathlib.Core.Path.{ap}
use Rattle.ftd.proofs.Options.{some-same}
use Rattle.fix.specs.declared.fields.Front.{Front}
use Rattle.fix.specs.declared.frame.Frame.{Frame}
use Rattle.ftd.specs.declared.packet.Span.{Span}
use Rattle.fix.specs.Types.{some_front, some_frame}

pub same-front : (t s k u v m : ℕ) → some_front t s k ≡ some_front u v m → (t ≡ u) × (s ≡ v) × (k ≡ m)
same-front t s k u v m e =
    let q = some-same _ _ e in
    (ap (λ (f : Front). f.tag) q, ap (λ (f : Front). f.start) q, ap (λ (f : Front). f.len) q)

pub same-frame : (a b c d : Span) → some_frame a b ≡ some_frame c d → (a ≡ c) × (b ≡ d)
same-frame a b c d e =
    let q = some-same _ _ e in
    (ap (λ (f : Frame). f.name) q, ap (λ (f : Frame). f.fields) q)
