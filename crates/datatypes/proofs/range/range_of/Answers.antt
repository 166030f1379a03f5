use Rattle.datatypes.specs.Forms.{range_of, integer_types}
use Rattle.datatypes.proofs.Others.{range_in_others}
use Rattle.datatypes.proofs.range.range_of.Goals as goal

pub returns-in_default : goal.returns-in_default
unfolding range_of
returns-in_default c =
    let w = c.in_default in
    range_in_others integer_types _ (
      w.not-text,
      (
        w.not-text-2,
        (
          w.not-text-3,
          (
            w.not-text-4,
            (
              w.not-text-5,
              (
                w.not-text-6,
                (w.not-text-7, (w.not-text-8, (w.not-text-9, (w.not-text-10, (w.not-text-11, (w.not-text-12, (w.not-text-13, tt))))))),
              ),
            ),
          ),
        ),
      ),
    )
