use Rattle.std.proofs.Common.{◌≡◌, None, Some, refl, rules, sym}
use Rattle.bcv_databases.specs.Catalog.{found_at, set_at, shown_view}
use Rattle.bcv_upload.specs.State.{IsRunning}
use Rattle.bcv_client.specs.NewUploads.{view_upload}
use Rattle.bcv_client.specs.TxnBegins.{base_over}
use Rattle.bcv_client.proofs.NewUploads.{commits_there, new_upload_is, pages_there, upload_base, upload_few, upload_job_is, upload_page_size, upload_view, view_at, view_there}
use Rattle.bcv_client.proofs.client.Client.new_upload.Goals as goal

pub unreachable-requires : goal.unreachable-requires
unreachable-requires g c =
    let d = c.args.self.now.ledger.databases in
    let none : None ≡ found_at d c.args.db.now = rw c.in_default.is at c.find.ensures.found in
    view_there d c.args.db.now c.requires.some (sym none)

pub unreachable-unreachable : goal.unreachable-unreachable
unreachable-unreachable g c =
    let d = c.args.self.now.ledger.databases in
    let none : None ≡ found_at d c.args.db.now = rw c.in_default.is at c.find.ensures.found in
    view_there d c.args.db.now c.requires.some (sym none)

pub unreachable-requires-in_default-commits : goal.unreachable-requires-in_default-commits
unreachable-requires-in_default-commits g c =
    let x = c.args.self.now in
    let d = x.ledger.databases in
    let v = shown_view c.in-Some.view in
    let there : Some v ≡ found_at d c.args.db.now = rw c.in-Some.is at c.find.ensures.found in
    commits_there d c.args.db.now v c.requires.some (sym there) c.in_default-commits.is

pub unreachable-unreachable-in_default-commits : goal.unreachable-unreachable-in_default-commits
unreachable-unreachable-in_default-commits g c =
    let x = c.args.self.now in
    let d = x.ledger.databases in
    let v = shown_view c.in-Some.view in
    let there : Some v ≡ found_at d c.args.db.now = rw c.in-Some.is at c.find.ensures.found in
    commits_there d c.args.db.now v c.requires.some (sym there) c.in_default-commits.is

pub unreachable-requires-in_default-pages : goal.unreachable-requires-in_default-pages
unreachable-requires-in_default-pages g c =
    let x = c.args.self.now in
    let d = x.ledger.databases in
    let v = shown_view c.in-Some.view in
    let there : Some v ≡ found_at d c.args.db.now = rw c.in-Some.is at c.find.ensures.found in
    let none : set_at d.sets c.in-Some-commits.at.set ≡ None = (search rules) in
    pages_there d c.args.db.now v c.find.ensures.sound c.in-Some-commits.at (sym there) c.in-Some-commits.is none

pub unreachable-unreachable-in_default-pages : goal.unreachable-unreachable-in_default-pages
unreachable-unreachable-in_default-pages g c =
    let x = c.args.self.now in
    let d = x.ledger.databases in
    let v = shown_view c.in-Some.view in
    let there : Some v ≡ found_at d c.args.db.now = rw c.in-Some.is at c.find.ensures.found in
    let none : set_at d.sets c.in-Some-commits.at.set ≡ None = (search rules) in
    pages_there d c.args.db.now v c.find.ensures.sound c.in-Some-commits.at (sym there) c.in-Some-commits.is none

pub commits_fit-requires : goal.commits_fit-requires
commits_fit-requires g c =
    let x = c.args.self.now in
    let d = x.ledger.databases in
    let v = shown_view c.in-Some.view in
    let there : Some v ≡ found_at d c.args.db.now = rw c.in-Some.is at c.find.ensures.found in
    let h : set_at d.sets c.in-Some-commits.at.set ≡ Some c.in-Some-pages.pages.now = (search rules) in
    view_at x c.args.db.now v c.in-Some-commits.at (base_over v) c.in-Some-pages.pages.now c.requires.form c.find.ensures.sound (sym there) c.in-Some-commits.is refl h

pub returns-in_err-base-clause-job : goal.returns-in_err-base-clause-job
returns-in_err-base-clause-job g c =
    search rules

pub returns-in_err-base-clause-new : goal.returns-in_err-base-clause-new
returns-in_err-base-clause-new g c =
    search rules

pub returns-in_err-upload-clause-job : goal.returns-in_err-upload-clause-job
returns-in_err-upload-clause-job g c =
    search rules

pub returns-in_err-upload-clause-new : goal.returns-in_err-upload-clause-new
returns-in_err-upload-clause-new g c =
    search rules

pub new-requires-clause-base : goal.new-requires-clause-base
new-requires-clause-base g c =
    let x = c.args.self.now in
    let d = x.ledger.databases in
    let v = shown_view c.in-Some.view in
    let there : Some v ≡ found_at d c.args.db.now = rw c.in-Some.is at c.find.ensures.found in
    let h : set_at d.sets c.in-Some-commits.at.set ≡ Some c.in-Some-pages.pages.now = (search rules) in
    let is : c.in_ok-base.base ≡ base_over v = (search rules) in
    upload_base x c.args.db.now v c.in-Some-commits.at c.in_ok-base.base c.in-Some-pages.pages.now c.requires.form c.find.ensures.sound (sym there) c.in-Some-commits.is is h

pub new-requires-clause-view : goal.new-requires-clause-view
new-requires-clause-view g c =
    let x = c.args.self.now in
    let d = x.ledger.databases in
    let v = shown_view c.in-Some.view in
    let there : Some v ≡ found_at d c.args.db.now = rw c.in-Some.is at c.find.ensures.found in
    let h : set_at d.sets c.in-Some-commits.at.set ≡ Some c.in-Some-pages.pages.now = (search rules) in
    let is : c.in_ok-base.base ≡ base_over v = (search rules) in
    upload_view x c.args.db.now v c.in-Some-commits.at c.in_ok-base.base c.in-Some-pages.pages.now c.requires.form c.find.ensures.sound (sym there) c.in-Some-commits.is is h

pub new-requires-clause-page_size : goal.new-requires-clause-page_size
new-requires-clause-page_size g c =
    let x = c.args.self.now in
    let d = x.ledger.databases in
    let v = shown_view c.in-Some.view in
    let there : Some v ≡ found_at d c.args.db.now = rw c.in-Some.is at c.find.ensures.found in
    let h : set_at d.sets c.in-Some-commits.at.set ≡ Some c.in-Some-pages.pages.now = (search rules) in
    let is : c.in_ok-base.base ≡ base_over v = (search rules) in
    upload_page_size x c.args.db.now v c.in-Some-commits.at c.in_ok-base.base c.in-Some-pages.pages.now c.requires.form c.find.ensures.sound (sym there) c.in-Some-commits.is is h

pub new-requires-clause-few : goal.new-requires-clause-few
new-requires-clause-few g c =
    let x = c.args.self.now in
    let d = x.ledger.databases in
    let v = shown_view c.in-Some.view in
    let there : Some v ≡ found_at d c.args.db.now = rw c.in-Some.is at c.find.ensures.found in
    let h : set_at d.sets c.in-Some-commits.at.set ≡ Some c.in-Some-pages.pages.now = (search rules) in
    let is : c.in_ok-base.base ≡ base_over v = (search rules) in
    upload_few x c.args.db.now v c.in-Some-commits.at c.in_ok-base.base c.in-Some-pages.pages.now c.requires.form c.find.ensures.sound (sym there) c.in-Some-commits.is is h

pub overflow_sub-result : goal.overflow_sub-result
overflow_sub-result g c =
    let x = c.args.self.now in
    let d = x.ledger.databases in
    let v = shown_view c.in-Some.view in
    let there : Some v ≡ found_at d c.args.db.now = rw c.in-Some.is at c.find.ensures.found in
    let h : set_at d.sets c.in-Some-commits.at.set ≡ Some c.in-Some-pages.pages.now = (search rules) in
    (view_at x c.args.db.now v c.in-Some-commits.at (base_over v) c.in-Some-pages.pages.now c.requires.form c.find.ensures.sound (sym there) c.in-Some-commits.is refl h).order

pub returns-clause-job : goal.returns-clause-job
returns-clause-job g c =
    let x = c.args.self.now in
    let d = x.ledger.databases in
    let v = shown_view c.in-Some.view in
    let there : Some v ≡ found_at d c.args.db.now = rw c.in-Some.is at c.find.ensures.found in
    let h : set_at d.sets c.in-Some-commits.at.set ≡ Some c.in-Some-pages.pages.now = (search rules) in
    let is : c.in_ok-base.base ≡ base_over v = (search rules) in
    let state : c.in_ok-upload.upload ≡ view_upload c.in-Some-pages.pages.now c.in_ok-base.base x.id c.args.id = (search rules) in
    let runs : IsRunning c.in_ok-upload.upload = (search rules) in
    upload_job_is x c.args.db.now v c.in-Some-commits.at c.in_ok-base.base c.in-Some-pages.pages.now c.requires.form c.find.ensures.sound (sym there) c.in-Some-commits.is is h c.args.id c.in_ok-upload.upload state

pub returns-clause-new : goal.returns-clause-new
returns-clause-new g c =
    let x = c.args.self.now in
    let d = x.ledger.databases in
    let v = shown_view c.in-Some.view in
    let there : Some v ≡ found_at d c.args.db.now = rw c.in-Some.is at c.find.ensures.found in
    let h : set_at d.sets c.in-Some-commits.at.set ≡ Some c.in-Some-pages.pages.now = (search rules) in
    let is : c.in_ok-base.base ≡ base_over v = (search rules) in
    let state : c.in_ok-upload.upload ≡ view_upload c.in-Some-pages.pages.now c.in_ok-base.base x.id c.args.id = (search rules) in
    let runs : IsRunning c.in_ok-upload.upload = (search rules) in
    new_upload_is x c.args.db.now v c.in-Some-commits.at c.in_ok-base.base c.in-Some-pages.pages.now c.requires.form c.find.ensures.sound (sym there) c.in-Some-commits.is is h c.args.id c.in_ok-upload.upload c.requires.some state runs c.commits_fit.ensures
