-- Publish, test by test: what the call leaves meets its promise. Assumes nothing.
use Prim.Native.Nat.{ℕ, ◌+◌, ◌-◌, ◌<◌, ◌≤◌}
use native.Mathlib.Omega.{arith}
use mathlib.Core.Path.{◌≡◌, refl, sym, ap, ◌∙◌}
use mathlib.Core.List.{List}
use mathlib.Core.Bool.{Bool, true, false, not, ◌||◌}
use borrow.Author.Tests.{lt-ltb, le-ltb, le-leb, lt-leb, ltb-false}
use lib.ListN.{length, get_or, set}
use lib.Dec.{ltb, leb}
use Rattle.ftd.specs.Bytes.{put}
use Rattle.ftd.specs.Content.{content_check}
use Rattle.ftd.specs.declared.refusal.Refusal.{Refusal}
use Rattle.ftd.specs.declared.refusal.Refusal.TheVariants.{UnknownSeries, TooSmall, DamagedLog, DayFull}
use Rattle.ftd.specs.declared.composition.Direction.TheVariants.{Down}
use Rattle.ftd.specs.Types.{Checked}
use Rattle.flow.specs.Types.{SeriesPlace}
use Rattle.flow.specs.declared.sender.DaySeries.{DaySeries}
use Rattle.flow.specs.declared.sender.Sender.{Sender}
use Rattle.flow.specs.Types.{Published}
use Rattle.flow.specs.declared.sender.PublishStep.{PublishStep}
use Rattle.flow.specs.Ends.{◌when◌else◌, Wrote, wrote, no_series, sender, is_served, published_of, with_entry}
use Rattle.flow.specs.Log.{entry_bytes, log_short, entry_fits}
use Rattle.flow.specs.Serving.{over_shares, publish_of}
use Rattle.flow.specs.Promises.{Publishes}
use Rattle.flow.specs.Helpers.{Finds, unpublished}
use Rattle.flow.specs.ShareHelpers.{shares_in}
use Rattle.flow.proofs.common.Contents.{on_check, content-rows}
use Rattle.flow.proofs.sender.Lookups.{published-at, reserve-at, used-at, entry_at}
use Rattle.flow.proofs.room.Places.{shares-entry, used-within}
use Rattle.std.specs.Prelude.{Some, None, Ok, Err}

module _ (e : Sender) (s tid : ℕ) (content log : List ℕ) where
  abbrev refused : Refusal → Wrote Sender Published
  refused r = wrote e (Err r) log

  -- Behind the content check: 13, 20, 18, 21 and the entry.
  abbrev entered : Wrote Sender Published
  entered =
      refused UnknownSeries when not (is_served e s) else
      refused DamagedLog when log_short e log else
      refused TooSmall when not (entry_fits e log content) || over_shares e s log content else
      refused DayFull when leb 1000000 (published_of e s) else
      wrote (with_entry e s (16 + length content)) (Ok (published_of e s + 1))
      (put log e.day.used (entry_bytes s tid (published_of e s + 1) content))

  -- The content check decides 7 to 10.
  by-check : publish_of e s tid content log ≡ on_check refused entered (content_check tid Down content 32768)
  unfolding publish_of
  by-check = content-rows tid Down content 32768 refused entered

  -- A step that is what the definition comes to meets the promise.
  meets : (x : Wrote Sender Published) → publish_of e s tid content log ≡ x
      → Publishes e s tid content log (record { end = x.end; answer = x.answer }) x.bytes
  meets x q = rw q (refl, (refl, refl), refl)

  -- The content check refused.
  pub publish-content : (r : Checked) (x : Refusal) (p : PublishStep) → r ≡ content_check tid Down content 32768
      → r ≡ Err x → p ≡ unpublished e x → Publishes e s tid content log p log
  publish-content r x p w h q = rw q (meets (refused x) (by-check ∙ ap (on_check refused entered) (sym w ∙ h)))

  -- The content passed.
  module _ (h : content_check tid Down content 32768 ≡ (Ok tt)) where
    passed : publish_of e s tid content log ≡ entered
    passed = by-check ∙ ap (on_check refused entered) h

    pub publish-unknown : (f : SeriesPlace) (p : PublishStep) → Finds e s f → f ≡ None
        → p ≡ unpublished e UnknownSeries → Publishes e s tid content log p log
    publish-unknown f p g u q =
        let n : is_served e s ≡ false = rw u at g in
        rw q (meets (refused UnknownSeries) (passed ∙ rw n))

    -- The series was found.
    module _ (at : ℕ) (g : Finds e s (Some at)) where
      abbrev one : DaySeries
      one = get_or e.day.series at no_series

      abbrev published : ℕ
      published = one.published

      published-is : published_of e s ≡ published
      published-is = sym (published-at e s at g.1)

      abbrev left : ℕ
      left = length log - e.day.used

      pub publish-damaged : (p : PublishStep) → length log < e.day.used → p ≡ unpublished e DamagedLog
          → Publishes e s tid content log p log
      unfolding log_short
      publish-damaged p a q =
          rw q (meets (refused DamagedLog) (passed ∙ rw (g.0, lt-ltb (length log) e.day.used a)))

      -- The log is not shorter than its used part, and the entry takes so many bytes.
      module _ (a : e.day.used ≤ length log) (size : ℕ) (z : size ≡ 16 + length content) where
        whole : ltb (length log) e.day.used ≡ false
        whole = le-ltb (length log) e.day.used a

        pub publish-small : (p : PublishStep) → left < size → p ≡ unpublished e TooSmall
            → Publishes e s tid content log p log
        unfolding log_short entry_fits
        publish-small p b q =
            rw q (meets (refused TooSmall) (passed ∙ rw (g.0, whole, ← z, lt-ltb left size b)))

        -- The entry fits.
        module _ (b : size ≤ left) where
          pub entry-within : e.day.used + 16 + length content ≤ length log
          entry-within = omega (arith, a, b, z)

          fits : ltb left (16 + length content) ≡ false
          fits = rw (← z) (le-ltb left size b)

          -- `over` is whether the shares would pass the log's length.
          module _ (over : Bool) (o : over ≡ ltb (length log) (shares_in e.day at size)) where
            over-is : over_shares e s log content ≡ over
            over-is = rw (← z, shares-entry e s at g.1 size) (sym o)

            pub publish-over : over ≡ true → (p : PublishStep) → p ≡ unpublished e TooSmall
                → Publishes e s tid content log p log
            unfolding log_short entry_fits
            publish-over t p q = rw q (meets (refused TooSmall) (passed ∙ rw (g.0, whole, fits, over-is, t)))

            -- The shares are within the log's length.
            module _ (within : over ≡ false) where
              -- So is what the series then uses.
              pub publish-within : one.used + size ≤ length log
              publish-within =
                  used-within e s at g.1 size g.0 (length log)
                  (ltb-false (length log) (shares_in e.day at size) (sym o ∙ within))

              pub publish-full : (p : PublishStep) → 1000000 ≤ published → p ≡ unpublished e DayFull
                  → Publishes e s tid content log p log
              unfolding log_short entry_fits
              publish-full p n q =
                  rw q
                  (meets (refused DayFull)
                  (passed ∙ rw (g.0, whole, fits, over-is, within, published-is, le-leb 1000000 published n)))

              pub publish-done : (o : List ℕ) → published < 1000000
                  → o ≡ put log e.day.used (entry_bytes s tid (published + 1) content)
                  → Publishes e s tid content log
                  (record {
                    end =
                        sender e.day.date e.day.count
                        (set e.day.series at
                        (record {
                          series = s;
                          published = published + 1;
                          reserve = one.reserve;
                          used = one.used + size;
                        }))
                        (e.day.used + size) e.seat.places;
                    answer = Ok (published + 1);
                  })
                  o
              unfolding log_short entry_fits
              publish-done o n q =
                  rw (
                    q,
                    z,
                    ← published-is,
                    reserve-at e s at g.1,
                    used-at e s at g.1,
                    entry_at e s at g.1 (16 + length content),
                  )
                  (meets _
                  (passed
                  ∙ rw (g.0, whole, fits, over-is, within, lt-leb 1000000 (published_of e s) (rw published-is n))))
