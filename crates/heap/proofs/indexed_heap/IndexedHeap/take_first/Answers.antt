use Rattle.std.proofs.Common.{◌≡◌, ◌-◌, get_or, refl, ap, ◌∙◌, arith}
use Rattle.heap.specs.Content.{Ordered}
use Rattle.heap.proofs.Contents.{first_held, first_key_least, one_more, take_below, with_removed}
use Rattle.heap.proofs.Pairs.{keys_swapped, place_swapped}
use Rattle.heap.proofs.indexed_heap.IndexedHeap.take_first.Goals as goal

pub returns-clause-ordered : goal.returns-clause-ordered
unfolding Ordered
returns-clause-ordered g c ordered i pos lt =
    let h = c.args.self.now in
    let o = g.K.Key.order in
    let last = c.len-last.result - 1 in
    let some = c.requires in
    let slots = c.remove_last-place.ensures.slots ∙ c.swap.ensures.slots in
    let keys = keys_swapped h.table 0 last (omega arith) (omega arith) o h.keys _ slots in
    c.sift_down.ensures.heaped (take_below o h _ last _ (omega arith) (omega arith) keys ordered) i pos (omega arith)

pub returns-clause-removed : goal.returns-clause-removed
returns-clause-removed g c =
    let h = c.args.self.now in
    let last = c.len-last.result - 1 in
    let place = c.remove_last-place.result in
    let some = c.requires in
    let end : c.swap.new.self.len - 1 ≡ last = omega arith in
    let first : place ≡ get_or h.table.slots 0 0 =
    c.remove_last-place.ensures.place ∙ ap (λ n. get_or c.swap.new.self.slots n 0) end
    ∙ place_swapped h.table 0 last (omega arith) (omega arith) _ c.swap.ensures.slots in
    record {
      held = first_held h place _ first some;
      least = first_key_least g.K.Key.order h place _ first some;
      rest = with_removed h _ place refl
          (λ p.
          let a = c.sift_down.ensures.same.waiting p in
          let b = c.remove_last-place.ensures.waiting p in
          let d = c.swap.ensures.same.waiting p in
          cc);
      fewer = one_more _ h (omega (arith, c.sift_down.ensures.same.len));
    }
