-- What a step leaves of its process's pages, of the pipes that it is shown, and to a process that it makes: no byte of another process.
use Rattle.kernel_spec.proofs.Prelude.{ℕ, ◌≡◌, call_in, get, HasWholePages, IsExecDone, length, live, NoOldByte, NoOldChild, NoOldPipe, OnlyStoresChangeBytes, own, Page, Some, StoresTheseBytes}
use Rattle.kernel_spec.proofs.Prelude.{StoresWhereUserMay, View}
use Rattle.kernel_spec.proofs.calls.Steps.{own_facts}
use Rattle.kernel_spec.proofs.Common.{view_low}

pub no_old_byte : NoOldByte
no_old_byte v n next = ((own_facts v).exec n next, λ other page x new. ((own_facts v).image other n next).new page x new.0 new.1)

pub only_stores_change_bytes : OnlyStoresChangeBytes
only_stores_change_bytes v n whole next apart page x y was is = let kept = ((own_facts v).image apart n next).stays page x y (whole page x was) was is in (kept.0, kept.2)

-- and it is as long as it was
pub same_lengths : (v n : View) → HasWholePages v.image → (own v).next ≡ Some n → ¬ IsExecDone (call_in v) (own v) → (page : ℕ) (x y : Page)
    → get v.image.pages page ≡ Some x → get n.image.pages page ≡ Some y → length y.bytes ≡ length x.bytes
same_lengths v n whole next apart page x y was is = (((own_facts v).image apart n next).stays page x y (whole page x was) was is).1

pub stores_where_user_may : StoresWhereUserMay
stores_where_user_may v a is = (own_facts v).allowed a is

pub stores_these_bytes : StoresTheseBytes
stores_these_bytes v n a whole next is = (own_facts v).told n next whole a is

pub no_old_pipe : NoOldPipe
no_old_pipe s p v n see next x new = ((own_facts v).table (view_low s p (live s p) v see) n next).new x new

pub no_old_child : NoOldChild
no_old_child s p v c see is = (own_facts v).newborn c is
