use Rattle.std.proofs.Common.{refl}
use Rattle.cells.specs.Band.{in_band, band_slot}
use Rattle.cells.proofs.Slotted.{slotted_blank}
use Rattle.cells.proofs.band.Band.new.Goals as goal

pub returns : goal.returns
returns c = λ i. record { width = 0; last = 0; cell = slotted_blank (in_band 0 0) (band_slot 0) _ 1152 _ refl (c.in_ok-vec.ensures.items_if_clones_equal (λ y h. h)) i }
