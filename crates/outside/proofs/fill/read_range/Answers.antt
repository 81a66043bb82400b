use Rattle.std.proofs.Common.{◌≡◌, ◌≤◌, ◌+◌, ◌-◌, ◌∙◌, length, take, drop, map, arith, length-take, length-drop}
use Rattle.std.proofs.lemmas.List.{length-map}
use Rattle.outside.specs.Cells.{content_of}
use Rattle.outside.specs.Pages.{cells}
use Rattle.outside.proofs.Places.{length-cells}
use Rattle.outside.proofs.Zipped.{read_next, length_read}
use Rattle.outside.proofs.fill.read_range.Goals as goal

pub loop-done-preserved : goal.loop-done-preserved
loop-done-preserved c =
    let at = c.args.at in
    let done = c.loop-done.done in
    let n = c.min-n.result in
    let into = c.loop-done.into in
    let xs = map content_of (cells c.args.pages.now.items) in
    let fits : done + n ≤ length into = omega arith in
    let inside : at + done + n ≤ length xs = omega (arith, length-map (cells c.args.pages.now.items) content_of, length-cells c.args.pages.now.items, c.requires.pages, c.requires.within) in
    let m : done + n - done ≡ n = omega arith in
    let q : length (take (done + n - done) (drop done into)) ≡ n = omega (arith, length-take (done + n - done) (drop done into), length-drop done into) in
    let size = length_read at done n (done + n - done) (length (take (done + n - done) (drop done into))) xs into c.read_piece.new.into fits inside q m c.read_piece.ensures in
    record {
      size = size ∙ c.loop-done.invariant.size;
      within = omega arith;
      read = read_next at done n (done + n - done) (length (take (done + n - done) (drop done into))) xs into c.read_piece.new.into fits inside q c.loop-done.invariant.read c.read_piece.ensures;
    }
