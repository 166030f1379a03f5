use Rattle.std.proofs.Common.{◌≡◌, ◌≢◌, ◌≤◌, ◌+◌, ◌-◌, ◌^◌, min, List, ℕ}
use Rattle.shelf_io.proofs.Gains.{Takes}
use Rattle.shelf_io.proofs.document.read_document.Given as goal

abbrev pub invariant-loop-at : goal.invariant-loop-at
invariant-loop-at g l =
    record {
      bound : l.at ≤ 2 ^ 31;
      taken : Takes (g.H.Shelf.held l.fn.shelf) l.name l.at l.bytes;
      kept : g.H.Shelf.held l.shelf ≡ g.H.Shelf.held l.fn.shelf;
      count : (any : List ℕ) → g.H.Shelf.faults l.fn.shelf any ≤ g.H.Shelf.faults l.shelf any;
      few : g.H.Shelf.pulls l.shelf l.name ≤ g.H.Shelf.pulls l.fn.shelf l.name + (1 + min l.at (2 ^ 30 + 1));
      unasked : (other : List ℕ) → other ≢ l.name → g.H.Shelf.pulls l.shelf other ≡ g.H.Shelf.pulls l.fn.shelf other;
      others : (other : List ℕ) → other ≢ l.name → g.H.Shelf.faults l.shelf other ≡ g.H.Shelf.faults l.fn.shelf other;
    }

abbrev pub decreases-loop-at : goal.decreases-loop-at
decreases-loop-at g l = 2 ^ 31 - l.at
