-- No other outcome fits: two answers, with every lent slice afterwards, that both meet a public function's contract for one input are equal.
-- Each part of a contract is an equation with the rules.
use Rattle.std.specs.Prelude.{ℕ, List, ◌≡◌}
use Rattle.rules.specs.Run.{Given}
use Rattle.rules.specs.Promised.{Checked, Ran, CheckedInto, RanInto}

pub checked_unique : (image : List ℕ) (number place number' place' : ℕ) → Checked image number place → Checked image number' place'
    → (number ≡ number') × (place ≡ place')
checked_unique image number place number' place' c d = ((cc), (cc))

pub ran-unique : (g : Given) (number place steps entries number' place' steps' entries' : ℕ) (store work trace store' work' trace' : List ℕ)
    → Ran g number place steps entries store work trace → Ran g number' place' steps' entries' store' work' trace'
    → (number ≡ number') × (place ≡ place') × (steps ≡ steps') × (entries ≡ entries') × (store ≡ store') × (work ≡ work') × (trace ≡ trace')
ran-unique g number place steps entries number' place' steps' entries' store work trace store' work' trace' r q = ((cc), (cc), (cc), (cc), (cc), (cc), (cc))

pub checked_into_unique : (image : List ℕ) (room : ℕ) (answer answer' : List ℕ) → CheckedInto image room answer → CheckedInto image room answer' → answer ≡ answer'
checked_into_unique image room answer answer' c d = cc

pub ran_into_unique : (g : Given) (room : ℕ) (store work trace answer store' work' trace' answer' : List ℕ)
    → RanInto g room store work trace answer → RanInto g room store' work' trace' answer'
    → (store ≡ store') × (work ≡ work') × (trace ≡ trace') × (answer ≡ answer')
ran_into_unique g room store work trace answer store' work' trace' answer' r q = ((cc), (cc), (cc), (cc))
