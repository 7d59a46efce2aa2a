-- Minutes before which the jobs that are left cannot start.
pub mod Releases
