use Rattle.std.proofs.Common.{sym, arith, rules}
use Rattle.cells.specs.Band.{in_band, band_slot}
use Rattle.cells.proofs.Slotted.{slotted_set, band_alone, band_inside}
use Rattle.cells.proofs.band.ops.BandCells.put.Goals as goal

pub returns-clause-changes : goal.returns-clause-changes
returns-clause-changes c =
    let b = c.args.self.now in
    let r = c.args.place.row in
    let k = c.args.place.column in
    let kept = sym c.if-not-keeps.ensures in
    let inside = band_inside b.width b.last b.narrow r k c.args.place.few_rows kept in
    let whole = b.all in
    let ok = b.cells.ok.0 in
    (search rules, slotted_set (in_band b.width b.last) (band_slot b.last) b.cells.items r k _ c.args.value c.slot-slot.ensures kept (omega arith) (band_alone b.width b.last b.narrow r k kept))
