-- Places that may be missing, in an array: those that are there, in its order.
use Rattle.std.proofs.Common.{◌≡◌, List, [], ◌∷◌, Option, None, Some, option_to_list, refl, ap}
use Rattle.std.specs.List.{flat_map, filter_map}

-- the options that hold something, as `filter_map` and as `flat_map` tell them
pub held : {X : Type 0} (xs : List (Option X)) → filter_map (λ x. x) xs ≡ flat_map option_to_list xs
held [] = refl
held (None ∷ xs) = held xs
held (Some x ∷ xs) = ap (λ l. x ∷ l) (held xs)
