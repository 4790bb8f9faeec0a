-- What each variant of a `Shape` says, as equations: a crate above cites these, since there `bounds_of` does not compute.
use Rattle.std.proofs.Common.{◌≡◌, List, Box, Global, sym, ap, ◌∙◌}
use Rattle.nrca_ranges.specs.declared.interval.Interval.{Interval}
use Rattle.nrca_ranges.specs.declared.shape.Shape.TheVariants as shape
use Rattle.nrca_ranges.specs.declared.shape.Shape.TheVariants.{rolls-Unknown, rolls-Members, rolls-Grid}
use Rattle.nrca_ranges.specs.declared.shape.Shape.TheOpen.{Shape-F}
use Rattle.nrca_ranges.specs.declared.shape.Shape.TheFolds.{fold-roll-Shape}
use Rattle.nrca_ranges.specs.declared.shape.Shape.{Shape}
use Rattle.nrca_ranges.specs.Bounds.{Bounds, unknown, members, grid}
use Rattle.nrca_ranges.specs.Shapes.{bounds_of, node_bounds, list_bounds}

pub bounds_of-Unknown : bounds_of shape.Unknown ≡ unknown
bounds_of-Unknown = ap bounds_of (sym rolls-Unknown) ∙ fold-roll-Shape Bounds (List Bounds) node_bounds list_bounds Shape-F.Unknown

pub bounds_of-Members : (i : Interval) (b : Box Shape Global) → bounds_of (shape.Members i b) ≡ members i (bounds_of b.value)
bounds_of-Members i b = ap bounds_of (sym (rolls-Members i b)) ∙ fold-roll-Shape Bounds (List Bounds) node_bounds list_bounds (Shape-F.Members i b)

pub bounds_of-Grid : (is : List Interval) (b : Box Shape Global) → bounds_of (shape.Grid is b) ≡ grid is (bounds_of b.value)
bounds_of-Grid is b = ap bounds_of (sym (rolls-Grid is b)) ∙ fold-roll-Shape Bounds (List Bounds) node_bounds list_bounds (Shape-F.Grid is b)
