-- Worked values of the cover rule of piles.
use Rattle.std.specs.Prelude.{◌≡◌, [], ◌∷◌, refl}
use Rattle.store.specs.Meaning.{Rule, bare, sized}
use Rattle.stripe_map.specs.declared.layout.Layout.{Layout}
use Rattle.level.specs.Level.{level_covers}
use Rattle.level.specs.Layouts.{layout_of}
use Rattle.level.specs.Gaps.{listed, gap_ranks}

-- four nodes in one group over four places: XOR sum of three data blocks in one lane
abbrev pub sum_of_3 : Layout
sum_of_3 = layout_of (sized 4 4 2) (record { k = 3; m = 1 }) 4 1 refl

-- four nodes in one group: one copy in two lanes over four places, and in one lane over two
abbrev pub copy_in_2_lanes : Layout
copy_in_2_lanes = layout_of (sized 4 4 2) (record { k = 1; m = 1 }) 4 2 refl

abbrev pub copy_in_1_lane : Layout
copy_in_1_lane = layout_of (sized 4 2 2) (record { k = 1; m = 1 }) 4 1 refl

-- three nodes in one group: XOR sum of two data blocks in three lanes over nine places, and in two lanes over six
abbrev pub sum_in_3_lanes : Layout
sum_in_3_lanes = layout_of (sized 3 9 2) (record { k = 2; m = 1 }) 3 3 refl

abbrev pub sum_in_2_lanes : Layout
sum_in_2_lanes = layout_of (sized 3 6 2) (record { k = 2; m = 1 }) 3 2 refl

-- the cover rules of the three piles, each over a bare store
abbrev pub one_sum : Rule
one_sum = level_covers sum_of_3 bare

abbrev pub two_copies : Rule
two_copies = level_covers copy_in_1_lane (level_covers copy_in_2_lanes bare)

abbrev pub two_sums : Rule
two_sums = level_covers sum_in_2_lanes (level_covers sum_in_3_lanes bare)

pub record CoverExamples : Type 0 where
  -- three places on each of four ranks
  pub sum_survives_one : gap_ranks one_sum 3 (listed (2 ∷ [])) 4 ≡ []
  pub sum_loses_two : gap_ranks one_sum 3 (listed (1 ∷ 2 ∷ [])) 4 ≡ 1 ∷ 2 ∷ []
  -- one place on each of four ranks
  pub copies_lose_one_of_three : gap_ranks two_copies 1 (listed (0 ∷ 1 ∷ 2 ∷ [])) 4 ≡ 0 ∷ []
  -- four places on each of three ranks: each level alone survives the loss of one node, both together not of two
  pub tolerances_do_not_add_up : gap_ranks two_sums 4 (listed (0 ∷ 1 ∷ [])) 3 ≡ 0 ∷ 1 ∷ []
