-- The job sets that part-plans hold.
pub mod Sets
pub mod Results
