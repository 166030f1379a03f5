use Rattle.std.proofs.Common.{◌≡◌, List, ◌∷◌, refl}
use Rattle.shapes_profile.specs.Properties.{table}
use Rattle.shapes_profile.proofs.properties.table.Goals as goal

cons : {X : Type 0} {x y : X} {xs ys : List X} → x ≡ y → xs ≡ ys → x ∷ xs ≡ y ∷ ys
cons e f = λ i. e i ∷ f i

pub returns : goal.returns
unfolding table
returns c =
    (cons c.new.ensures
    (cons c.new-2.ensures
    (cons c.new-3.ensures
    (cons c.new-4.ensures
    (cons c.new-5.ensures
    (cons c.new-6.ensures
    (cons c.new-7.ensures
    (cons c.new-8.ensures
    (cons c.new-9.ensures
    (cons c.new-10.ensures
    (cons c.new-11.ensures
    (cons c.new-12.ensures
    (cons c.new-13.ensures
    (cons c.new-14.ensures
    (cons c.new-15.ensures
    (cons c.new-16.ensures
    (cons c.new-17.ensures
    (cons c.new-18.ensures
    (cons c.new-19.ensures
    (cons c.new-20.ensures
    (cons c.new-21.ensures
    (cons c.new-22.ensures
    (cons c.new-23.ensures
    (cons c.new-24.ensures
    (cons c.new-25.ensures
    (cons c.new-26.ensures
    (cons c.new-27.ensures
    (cons c.new-28.ensures
    (cons c.new-29.ensures
    (cons c.new-30.ensures
    (cons c.new-31.ensures
    (cons c.new-32.ensures
    (cons c.new-33.ensures
    (cons c.new-34.ensures
    (cons c.new-35.ensures
    (cons c.new-36.ensures refl))))))))))))))))))))))))))))))))))))
