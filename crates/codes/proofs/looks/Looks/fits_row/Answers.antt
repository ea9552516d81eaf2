use Rattle.std.proofs.Common.{rules, ◌≡◌, sym, ap, ◌∙◌}
use Rattle.table.specs.Directions.{dir}
use Rattle.table.specs.declared.direction.Direction.TheVariants.{Down, Up}
use Rattle.codes.proofs.Asking.{fits_down, fits_up}
use Rattle.codes.proofs.looks.Looks.fits_row.Goals as goal

pub returns-then-eq : goal.returns-then-eq
returns-then-eq c =
    let e : c.of-d.result ≡ Down c.args.side = search rules in
    fits_down c.args.self.now.looking c.requires.0 (sym c.look_row.ensures ∙ c.in-Go.is) (sym c.of-d.ensures ∙ ap dir e) c.has_bit.ensures c.has_bit-then-eq.ensures c.requires.2

pub returns-then-eq-2 : goal.returns-then-eq-2
returns-then-eq-2 c =
    let e : c.of-d.result ≡ Up c.args.side = search rules in
    fits_up c.args.self.now.looking c.requires.0 (sym c.look_row.ensures ∙ c.in-Go.is) (sym c.of-d.ensures ∙ ap dir e) c.has_bit-then-eq-2.ensures c.has_bit-then-eq-2-2.ensures c.requires.1
