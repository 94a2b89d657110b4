-- Small trees of generated images, by computation (document 02, card 12): a sum, left drawn first; and c = 3 at depth 2 and at depth 3.
use mathlib.Core.Path.{◌≡◌, refl}
use Rattle.image_written.specs.Generated.{literal, sum, traced, form_of, by_form, grow}

pub left_first : (grow 1 6).tree ≡ sum 0 (literal 210) (literal 237)
unfolding grow by_form form_of
left_first = refl

-- "Below depth 3, c = 3 counts as 0": the number follows.
pub print_below_3 : (grow 1 26).tree ≡ literal 163
unfolding grow by_form form_of
print_below_3 = refl

-- "3 a sequence of print of a tree of d - 2, then a tree of d - 1": at depth 3, a print of a number, then a difference of two numbers.
pub print_at_3 : (grow 2 27).tree ≡ traced (literal 186) (sum 1 (literal 170) (literal 96))
unfolding grow by_form form_of
print_at_3 = refl
