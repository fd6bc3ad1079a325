use Rattle.std.proofs.Common.{ℕ, arith}
use Rattle.cliques.specs.Words.{placed}
use Rattle.search.proofs.Steps.{enter_stopped, enter_found, enter_shut, enter_open, try_none, Tried, try_found}
use Rattle.search.proofs.Steps.{try_stopped, left_more}
use Rattle.search.proofs.+enter_try_from.Goals as goal
use Rattle.search.proofs.+enter_try_from.Goals.{try_from-After-enter-out}

pub enter-returns-then-used-limit : goal.enter-returns-then-used-limit
enter-returns-then-used-limit t c =
    enter_stopped c.args.filters c.requires c.if-used-limit.true

pub enter-returns-then-d-k : goal.enter-returns-then-d-k
enter-returns-then-d-k t c =
    enter_found c.args.filters c.requires c.if-used-limit.false c.if-d-k.true

pub enter-returns-then-not-filter : goal.enter-returns-then-not-filter
enter-returns-then-not-filter t c =
    enter_shut c.args.filters c.requires c.filter.ensures c.if-used-limit.false c.if-d-k.false c.if-not-filter.true

pub enter-returns : goal.enter-returns
enter-returns t c =
    enter_open c.args.filters c.requires c.filter.ensures c.if-used-limit.false c.if-d-k.false c.if-not-filter.false
    c.try_from.ensures

pub try_from-returns-then-v-n : goal.try_from-returns-then-v-n
try_from-returns-then-v-n t c =
    let i = c.loop-place.invariant in
    i.then (try_none c.args.filters i.space c.requires.1 i.far c.if-v-n.true c.next_live-v.ensures)

-- v was tried
tried : (t : ℕ) (c : try_from-After-enter-out t) → let a = c.args in
    Tried a.filters (placed a.w a.masks a.graph a.n a.k) a.d c.loop-place.nodes a.limit c.loop-place.from
    c.next_live-v.result c.loop-place.part c.narrow.new.part c.enter-out.new.part c.loop-place.chosen
    c.enter-out.new.chosen c.enter-out.result
tried t c = record {
  space = c.loop-place.invariant.space;
  cut = record {
    room = c.loop-place.invariant.space.room;
    down = c.requires.1;
    more = c.if-v-n.false;
    least = c.next_live-v.ensures;
    cut = c.narrow.ensures;
    left = c.enter-out.ensures.rest;
  };
  next = c.enter-out.ensures;
}

pub try_from-loop-place-preserved : goal.try_from-loop-place-preserved
try_from-loop-place-preserved t c =
    left_more (tried t (goal.at.try_from-loop-place-preserved t c).After-enter-out) c.in-None.is c.enter-out.auto.chosen
    c.loop-place.invariant

pub try_from-returns-in-Found : goal.try_from-returns-in-Found
try_from-returns-in-Found t c =
    let x = tried t (goal.at.try_from-returns-in-Found t c).After-enter-out in
    c.loop-place.invariant.then
    (try_found x c.in-Found.is (omega (arith, x.space, x.cut.down, c.enter-out.auto.chosen)))

pub try_from-returns-in-Stopped : goal.try_from-returns-in-Stopped
try_from-returns-in-Stopped t c =
    c.loop-place.invariant.then
    (try_stopped (tried t (goal.at.try_from-returns-in-Stopped t c).After-enter-out) c.in-Stopped.is)
