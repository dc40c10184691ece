use Rattle.std.proofs.Common.{◌≡◌, ◌∙◌, ap, sym}
use Rattle.bcv_databases.specs.Catalog.{found_at}
use Rattle.bcv_client.specs.NewUploads.{IsNewUpload, upload_job, upload_reason_by}
use Rattle.bcv_client.proofs.NewUploads.{job_unmoved, new_upload_in_form, no_memory_for_upload, reason_unmoved, refused_upload, upload_free, upload_started, upload_unmoved}
use Rattle.bcv_client.proofs.PublicationsStart.{can_by, form_unmoved, unmoved_by}
use Rattle.bcv_client.proofs.TasksStart.{one_last}
use Rattle.bcv_client.proofs.client.Client.start_upload.Goals as goal

pub returns-in-Err-clause-form : goal.returns-in-Err-clause-form
returns-in-Err-clause-form g c =
    form_unmoved c.args.self.now c.draw.new.self (unmoved_by g.D.Disk.shown c.args.self.now c.draw.new.self (g.N.Names.shown c.args.names.now) (g.N.Names.shown c.draw.new.names) c.upload_reason-own.result c.draw.result c.draw.ensures) c.requires.form

pub returns-in-Err-clause-starts : goal.returns-in-Err-clause-starts
returns-in-Err-clause-starts g c =
    refused_upload g.D.Disk.shown c.args.self.now c.draw.new.self (g.N.Names.shown c.args.names.now) (g.N.Names.shown c.draw.new.names) c.args.db c.upload_reason-own.result (c.upload_reason-own.ensures ∙ ap upload_reason_by c.find.ensures.found) c.find.ensures.sound c.draw.result c.in-Err.reply c.in-Err.is c.draw.ensures

pub new_upload-requires-clause-form : goal.new_upload-requires-clause-form
new_upload-requires-clause-form g c =
    form_unmoved c.args.self.now c.draw.new.self (unmoved_by g.D.Disk.shown c.args.self.now c.draw.new.self (g.N.Names.shown c.args.names.now) (g.N.Names.shown c.draw.new.names) c.upload_reason-own.result c.draw.result c.draw.ensures) c.requires.form

pub new_upload-requires-clause-some : goal.new_upload-requires-clause-some
new_upload-requires-clause-some g c =
    reason_unmoved c.args.self.now c.draw.new.self c.args.db (unmoved_by g.D.Disk.shown c.args.self.now c.draw.new.self (g.N.Names.shown c.args.names.now) (g.N.Names.shown c.draw.new.names) c.upload_reason-own.result c.draw.result c.draw.ensures)
    (sym (c.upload_reason-own.ensures ∙ ap upload_reason_by c.find.ensures.found) ∙ upload_free g.D.Disk.shown c.args.self.now c.draw.new.self (g.N.Names.shown c.args.names.now) (g.N.Names.shown c.draw.new.names) c.args.db c.upload_reason-own.result (c.upload_reason-own.ensures ∙ ap upload_reason_by c.find.ensures.found) c.find.ensures.sound c.draw.result c.in-Ok.id c.in-Ok.is c.draw.ensures)

pub returns-in_default-clause-form : goal.returns-in_default-clause-form
returns-in_default-clause-form g c =
    form_unmoved c.args.self.now c.draw.new.self (unmoved_by g.D.Disk.shown c.args.self.now c.draw.new.self (g.N.Names.shown c.args.names.now) (g.N.Names.shown c.draw.new.names) c.upload_reason-own.result c.draw.result c.draw.ensures) c.requires.form

pub returns-in_default-clause-starts : goal.returns-in_default-clause-starts
returns-in_default-clause-starts g c =
    no_memory_for_upload g.D.Disk.shown c.args.self.now c.draw.new.self (g.N.Names.shown c.args.names.now) (g.N.Names.shown c.draw.new.names) c.args.db c.upload_reason-own.result (c.upload_reason-own.ensures ∙ ap upload_reason_by c.find.ensures.found) c.find.ensures.sound c.draw.result c.in-Ok.id c.in-Ok.is c.draw.ensures

pub put_last-requires-clause-few : goal.put_last-requires-clause-few
put_last-requires-clause-few g c =
    (can_by g.D.Disk.shown c.args.self.now c.draw.new.self (g.N.Names.shown c.args.names.now) (g.N.Names.shown c.draw.new.names) c.upload_reason-own.result c.draw.result c.in-Ok.id c.in-Ok.is c.draw.ensures).few

pub put_last-requires-clause-room : goal.put_last-requires-clause-room
put_last-requires-clause-room g c =
    (can_by g.D.Disk.shown c.args.self.now c.draw.new.self (g.N.Names.shown c.args.names.now) (g.N.Names.shown c.draw.new.names) c.upload_reason-own.result c.draw.result c.in-Ok.id c.in-Ok.is c.draw.ensures).room

pub put_last-requires-clause-form : goal.put_last-requires-clause-form
put_last-requires-clause-form g c =
    form_unmoved c.args.self.now c.draw.new.self (unmoved_by g.D.Disk.shown c.args.self.now c.draw.new.self (g.N.Names.shown c.args.names.now) (g.N.Names.shown c.draw.new.names) c.upload_reason-own.result c.draw.result c.draw.ensures) c.requires.form

pub put_last-requires-clause-job : goal.put_last-requires-clause-job
put_last-requires-clause-job g c =
    let mid = c.draw.new.self in
    let is : IsNewUpload mid.ledger.databases mid.id c.args.db c.in-Ok.id c.in-Ok-new_upload.job = rw c.in-Ok-new_upload.is at c.new_upload.ensures.new in
    new_upload_in_form mid c.args.db c.in-Ok.id c.in-Ok-new_upload.job (form_unmoved c.args.self.now c.draw.new.self (unmoved_by g.D.Disk.shown c.args.self.now c.draw.new.self (g.N.Names.shown c.args.names.now) (g.N.Names.shown c.draw.new.names) c.upload_reason-own.result c.draw.result c.draw.ensures) c.requires.form) is (can_by g.D.Disk.shown c.args.self.now c.draw.new.self (g.N.Names.shown c.args.names.now) (g.N.Names.shown c.draw.new.names) c.upload_reason-own.result c.draw.result c.in-Ok.id c.in-Ok.is c.draw.ensures).pending

pub put_last-requires-clause-single : goal.put_last-requires-clause-single
put_last-requires-clause-single g c =
    one_last c.draw.new.self c.in-Ok-new_upload.job (can_by g.D.Disk.shown c.args.self.now c.draw.new.self (g.N.Names.shown c.args.names.now) (g.N.Names.shown c.draw.new.names) c.upload_reason-own.result c.draw.result c.in-Ok.id c.in-Ok.is c.draw.ensures).quiet

pub returns-clause-form : goal.returns-clause-form
returns-clause-form g c =
    c.put_last.ensures.form

pub returns-clause-starts : goal.returns-clause-starts
returns-clause-starts g c =
    let mid = c.draw.new.self in
    let is : IsNewUpload mid.ledger.databases mid.id c.args.db c.in-Ok.id c.in-Ok-new_upload.job = rw c.in-Ok-new_upload.is at c.new_upload.ensures.new in
    let job_is : c.in-Ok-new_upload.job ≡ upload_job mid.ledger.databases mid.id (found_at mid.ledger.databases c.args.db) c.in-Ok.id = rw c.in-Ok-new_upload.is at c.new_upload.ensures.job in
    let same = (unmoved_by g.D.Disk.shown c.args.self.now c.draw.new.self (g.N.Names.shown c.args.names.now) (g.N.Names.shown c.draw.new.names) c.upload_reason-own.result c.draw.result c.draw.ensures) in
    upload_started g.D.Disk.shown c.args.self.now c.draw.new.self (g.N.Names.shown c.args.names.now) (g.N.Names.shown c.draw.new.names) c.args.db c.upload_reason-own.result (c.upload_reason-own.ensures ∙ ap upload_reason_by c.find.ensures.found) c.find.ensures.sound c.put_last.new.self c.draw.result c.in-Ok.id c.in-Ok-new_upload.job c.left_in-left.result c.put_last.result c.in-Ok.is c.draw.ensures c.requires.form
    (job_unmoved c.args.self.now mid c.args.db c.in-Ok.id c.in-Ok-new_upload.job same job_is) (upload_unmoved c.args.self.now mid c.args.db c.in-Ok.id c.in-Ok-new_upload.job same is) c.left_in-left.ensures
    c.put_last.ensures.starts c.put_last.ensures.task
